-- A search on its way down to the scalars that a byte lies in.
use Rattle.std.proofs.Common.{◌≡◌, ℕ, ◌+◌, ◌-◌, ◌<◌, ◌≤◌, ◌^◌, Bool, true, false, ◌&&◌, ◌||◌, nat_le, nat_lt, IsTrue, List, Some, length, refl, sym, ◌∙◌, ap, arith, is_some}
use Rattle.pv_types.specs.Ty.{Ty, ArrayOf, StructTag, UnionTag}
use Rattle.pv_types.specs.Layouts.{Part, Entry, look, layout_in, layout_of, is_complete_in, parts_of_elements}
use Rattle.pv_types.specs.LayoutParts.{part_count, union_parts, struct_parts, or_none}
use Rattle.pv_types.specs.Known.{Known, tree, env}
use Rattle.pv_types.specs.Formed.{named_members, is_union_in, IsBuilt}
use Rattle.pv_types.proofs.Counted.{element_fewer}
use Rattle.pv_types.proofs.Made.{made}
use Rattle.pv_types.proofs.Wholes.{inner_parts}
use Rattle.pv_types.specs.Qualifiers.{is_const}
use Rattle.pv_layout.proofs.Stripped.{IsBlind, bare_passes, Stripped, stripped_complete, stripped_size, stripped_unqualified, stripped_inner, stripped_whole, stripped_outer, stripped_count}
use Rattle.pv_layout.proofs.Unions.{Joins}
use Rattle.pv_effect.specs.declared.bytes.Sought.{Sought}
use Rattle.pv_effect.specs.declared.bytes.Sought.TheVariants.{Any, Accepting}
use Rattle.pv_effect.specs.declared.bytes.Search.{Search}
use Rattle.pv_effect.specs.declared.bytes.Search.TheVariants.{Settled, In}
use Rattle.pv_effect.specs.EffectiveType.{covers, some_over}
use Rattle.pv_effect.specs.Searches.{passes, IsBelow}
use Rattle.pv_effect.proofs.Over.{some_over-append}

-- what the whole covers the byte with, what is left covers the rest with, without qualifiers around it
pub record Descent (m : Known) (s : Sought) (t o left rest : ℕ) : Type 0 where
  pub known : left < length m.terms
  pub unqualified : is_const (tree m left) ≡ false
  pub complete : IsTrue (is_complete_in (env m) (tree m left))
  pub small : (layout_in (env m) (tree m left)).size ≤ 2 ^ 32
  pub lower : part_count (layout_in (env m) (tree m left)) ≤ part_count (layout_in (env m) (tree m t))
  pub same : some_over (env m) (passes m s) o (layout_in (env m) (tree m t)).parts ≡ some_over (env m) (passes m s) rest (layout_in (env m) (tree m left)).parts

-- a part that is no scalar doesn't count
no_head : (c r : Bool) → ((c && false) || r) ≡ r
no_head true r = refl
no_head false r = refl

pub struct_whole : (m : Known) (t tag o : ℕ) (s : Sought) (b : Bool) → IsBuilt m → IsTrue (is_some (look (env m) tag)) → is_union_in m.done tag ≡ false → tree m t ≡ StructTag tag
    → b ≡ some_over (env m) (passes m s) o (struct_parts (env m) (named_members m tag) 0) → b ≡ some_over (env m) (passes m s) o (layout_in (env m) (tree m t)).parts
struct_whole m t tag o s b built there flag is e =
    let whole : or_none (look (env m) tag) ≡ layout_of (env m) tag false (named_members m tag) = ap or_none (made m tag built there).laid ∙ ap (λ u. layout_of (env m) tag u (named_members m tag)) flag in
    e ∙ sym (ap (λ u. some_over (env m) (passes m s) o (layout_in (env m) u).parts) is
    ∙ ap (λ l. some_over (env m) (passes m s) o l.parts) whole
    ∙ no_head (covers (env m) o (record { offset = 0; t = StructTag tag })) (some_over (env m) (passes m s) o (struct_parts (env m) (named_members m tag) 0)))

pub union_whole : (m : Known) (t tag o : ℕ) (s : Sought) (b : Bool) → IsBuilt m → IsTrue (is_some (look (env m) tag)) → is_union_in m.done tag ≡ true → tree m t ≡ UnionTag tag
    → b ≡ some_over (env m) (passes m s) o (union_parts (env m) (named_members m tag)) → b ≡ some_over (env m) (passes m s) o (layout_in (env m) (tree m t)).parts
union_whole m t tag o s b built there flag is e =
    let whole : or_none (look (env m) tag) ≡ layout_of (env m) tag true (named_members m tag) = ap or_none (made m tag built there).laid ∙ ap (λ u. layout_of (env m) tag u (named_members m tag)) flag in
    e ∙ sym (ap (λ u. some_over (env m) (passes m s) o (layout_in (env m) u).parts) is
    ∙ ap (λ l. some_over (env m) (passes m s) o l.parts) whole
    ∙ no_head (covers (env m) o (record { offset = 0; t = UnionTag tag })) (some_over (env m) (passes m s) o (union_parts (env m) (named_members m tag))))

pub array_whole : (m : Known) (t e n o : ℕ) (s : Sought) (b : Bool) → tree m t ≡ ArrayOf (tree m e) (Some n)
    → b ≡ some_over (env m) (passes m s) o (parts_of_elements n (layout_in (env m) (tree m e)).size (layout_in (env m) (tree m e)).parts) → b ≡ some_over (env m) (passes m s) o (layout_in (env m) (tree m t)).parts
array_whole m t e n o s b is same =
    same ∙ sym (ap (λ u. some_over (env m) (passes m s) o (layout_in (env m) u).parts) is
    ∙ no_head (covers (env m) o (record { offset = 0; t = ArrayOf (tree m e) (Some n) })) (some_over (env m) (passes m s) o (parts_of_elements n (layout_in (env m) (tree m e)).size (layout_in (env m) (tree m e)).parts)))

-- qualifiers change nothing of what is sought
passes_blind : (m : Known) (s : Sought) (j : ℕ) → IsBlind (passes m s j)
passes_blind m Any j t = refl
passes_blind m (Accepting u k) j t = refl

-- the part that is the whole type
abbrev first : Ty → Part
first t = record { offset = 0; t = t }

-- nor do they change what lies over a byte
stripped_over : (m : Known) (u t o : ℕ) (s : Sought) → Stripped m u t → some_over (env m) (passes m s) o (layout_in (env m) (tree m u)).parts ≡ some_over (env m) (passes m s) o (layout_in (env m) (tree m t)).parts
stripped_over m u t o s h =
    let f = passes m s in
    let inner = inner_parts (env m) (tree m u) in
    let cover : covers (env m) o (first (tree m u)) ≡ covers (env m) o (first (tree m t)) = ap (λ k. nat_le 0 o && nat_lt o (0 + k)) (stripped_size m u t h) in
    let pass : f (o - 0) (tree m u) ≡ f (o - 0) (tree m t) = ap (f (o - 0)) h.is ∙ bare_passes (f (o - 0)) (passes_blind m s (o - 0)) (tree m t) in
    ap (some_over (env m) f o) (stripped_whole m u t h)
    ∙ ap (λ b. (b && f (o - 0) (tree m u)) || some_over (env m) f o inner) cover
    ∙ ap (λ b. (covers (env m) o (first (tree m t)) && b) || some_over (env m) f o inner) pass
    ∙ ap (λ ps. (covers (env m) o (first (tree m t)) && f (o - 0) (tree m t)) || some_over (env m) f o ps) (stripped_inner m u t h)
    ∙ sym (ap (some_over (env m) f o) (stripped_outer m u t h))

-- what is left, its qualifiers aside
pub descent_to : (m : Known) (s : Sought) (t o left rest u : ℕ) → Stripped m u left
    → (layout_in (env m) (tree m left)).size ≤ 2 ^ 32
    → part_count (layout_in (env m) (tree m left)) ≤ part_count (layout_in (env m) (tree m t))
    → some_over (env m) (passes m s) o (layout_in (env m) (tree m t)).parts ≡ some_over (env m) (passes m s) rest (layout_in (env m) (tree m left)).parts
    → Descent m s t o u rest
descent_to m s t o left rest u h small lower same =
    let size = stripped_size m u left h in
    let count = stripped_count m u left h in
    record {
      known = h.inner;
      unqualified = stripped_unqualified m u left h;
      complete = stripped_complete m u left h;
      small = omega (arith, size, small);
      lower = omega (arith, count, lower);
      same = same ∙ sym (stripped_over m u left rest s h);
    }

pub joins_over : (env : List Entry) (f : ℕ → Ty → Bool) (o : ℕ) → Joins (some_over env f o)
joins_over env f o = record { none = refl; both = λ xs ys. some_over-append env f o xs ys }

-- what a search goes on in has fewer parts than an element, or as many: so it has fewer than the array
pub array_below : (m : Known) (t e n : ℕ) (r : Search) → tree m t ≡ ArrayOf (tree m e) (Some n) → 0 < n → IsBelow m (part_count (layout_in (env m) (tree m e)) + 1) r → IsBelow m (part_count (layout_in (env m) (tree m t))) r
array_below m t e n (Settled b) is some low = tt
array_below m t e n (In u o) is some low =
    let more = element_fewer (env m) (tree m e) n some in
    let near = low.3 in
    (low.0, low.1, low.2, rw is (omega (arith, more, near)))
