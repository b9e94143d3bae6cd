-- The parts of a complete type end within it.
use Rattle.std.proofs.Common.{◌≡◌, ℕ, zero, suc, ◌+◌, ◌*◌, ◌<◌, ◌≤◌, max, Bool, true, false, IsTrue, List, [], ◌∷◌, ◌++◌, Some, None, refl, sym, ◌∙◌, ap, subst, arith}
use Rattle.std.specs.Int.{next_multiple_of}
use Rattle.pv_types.specs.Ty.{Ty, VoidTy, IntTy, PointerTo, ArrayOf, StructTag, UnionTag, FunctionTy, ConstOf}
use Rattle.pv_types.specs.Layouts.{Part, Layout, Entry, Named, look, layout_in, layout_of, is_complete_in, end_of, member_parts, tag_type, shifted_parts, parts_of_elements}
use Rattle.pv_types.specs.LayoutParts.{part_count, struct_end, union_end, union_parts, struct_parts, or_none, behind_whole}
use Rattle.pv_types.specs.Formed.{AreComplete, named_members, is_union_in, IsBuilt}
use Rattle.pv_types.specs.Known.{Known, env}
use Rattle.pv_types.proofs.Counted.{AreFewer, const_count, element_fewer, members_fewer}
use Rattle.pv_types.proofs.Fills.{struct_end-ge, union_end-ge, left_true, right_true, lt_true}
use Rattle.pv_types.proofs.Made.{made}
use Rattle.pv_effect.proofs.Over.{AreInside}

AreInside-more : (env : List Entry) (s k : ℕ) (ps : List Part) → s ≤ k → AreInside env s ps → AreInside env k ps
AreInside-more env s k [] h i = tt
AreInside-more env s k (p ∷ ps) h i = let here = i.0 in (omega (arith, here, h), AreInside-more env s k ps h i.1)

AreInside-append : (env : List Entry) (s : ℕ) (ps qs : List Part) → AreInside env s ps → AreInside env s qs → AreInside env s (ps ++ qs)
AreInside-append env s [] qs i j = j
AreInside-append env s (p ∷ ps) qs i j = (i.0, AreInside-append env s ps qs i.1 j)

AreInside-shifted : (env : List Entry) (s k : ℕ) (ps : List Part) → AreInside env s ps → AreInside env (k + s) (shifted_parts k ps)
AreInside-shifted env s k [] i = tt
AreInside-shifted env s k (p ∷ ps) i = let here = i.0 in (omega (arith, here), AreInside-shifted env s k ps i.1)

next_product : (n s : ℕ) → n * s + s ≡ suc n * s
next_product n s = omega arith

AreInside-repeated : (env : List Entry) (n s : ℕ) (ps : List Part) → AreInside env s ps → AreInside env (n * s) (parts_of_elements n s ps)
AreInside-repeated env zero s ps i = tt
AreInside-repeated env (suc n) s ps i =
    AreInside-append env (suc n * s) (parts_of_elements n s ps) (shifted_parts (n * s) ps)
    (AreInside-more env (n * s) (suc n * s) (parts_of_elements n s ps) (omega (arith, next_product n s)) (AreInside-repeated env n s ps i))
    (AreInside-more env (n * s + s) (suc n * s) (shifted_parts (n * s) ps) (omega (arith, next_product n s)) (AreInside-shifted env s (n * s) ps i))

-- the parts of every member end within it
abbrev AllInside : List Entry → List Named → Type 0
AllInside env [] = Unit {0}
AllInside env (x ∷ ms) = AreInside env (layout_in env x.t).size (layout_in env x.t).parts × AllInside env ms

struct_inside : (env : List Entry) (ms : List Named) (o : ℕ) → AllInside env ms → AreInside env (struct_end env o ms) (struct_parts env ms o)
struct_inside env [] o i = tt
struct_inside env (x ∷ ms) o i =
    AreInside-append env _ _ _
    (AreInside-more env _ _ _ (struct_end-ge env ms _) (AreInside-shifted env (layout_in env x.t).size (next_multiple_of o (layout_in env x.t).align) (layout_in env x.t).parts i.0))
    (struct_inside env ms _ i.1)

union_inside : (env : List Entry) (ms : List Named) (o k : ℕ) → AllInside env ms → union_end env o ms ≤ k → AreInside env k (union_parts env ms)
union_inside env [] o k i h = tt
union_inside env (x ∷ ms) o k i h =
    let more = union_end-ge env ms (max o (layout_in env x.t).size) in
    AreInside-append env k _ _ (AreInside-more env (0 + (layout_in env x.t).size) k _ (omega (arith, more, h)) (AreInside-shifted env (layout_in env x.t).size 0 (layout_in env x.t).parts i.0)) (union_inside env ms _ k i.1 h)

members_inside : (env : List Entry) (u : Bool) (ms : List Named) → AllInside env ms → AreInside env (end_of env u ms) (member_parts env u ms)
members_inside env true ms i = union_inside env ms 0 _ i (omega arith)
members_inside env false ms i = struct_inside env ms 0 i

tag_size : (env : List Entry) (u : Bool) (n : ℕ) → (layout_in env (tag_type u n)).size ≡ (or_none (look env n)).size
tag_size env true n = refl
tag_size env false n = refl

-- a structure or union, the parts of whose members end within these
tag_inside : (env : List Entry) (n : ℕ) (u : Bool) (ms : List Named) → or_none (look env n) ≡ layout_of env n u ms → AllInside env ms → AreInside env (or_none (look env n)).size (or_none (look env n)).parts
tag_inside env n u ms whole i =
    let own : (layout_in env (tag_type u n)).size ≡ (layout_of env n u ms).size = tag_size env u n ∙ ap (λ l. l.size) whole in
    let P : Layout → Type 0 = λ l. AreInside env l.size l.parts in
    subst P (sym whole) (omega (arith, own), AreInside-more env (end_of env u ms) _ _ (omega arith) (members_inside env u ms i))

all_inside : (env : List Entry) (h : ℕ) (ms : List Named) → AreComplete env ms → AreFewer env h ms
    → ((t : Ty) → IsTrue (is_complete_in env t) → part_count (layout_in env t) < h → AreInside env (layout_in env t).size (layout_in env t).parts) → AllInside env ms
all_inside env h [] c l one = tt
all_inside env h (x ∷ ms) c l one = (one x.t c.0 l.0, all_inside env h ms c.1 l.1 one)

-- a structure or union, where this is known of types with fewer parts
made_inside : (m : Known) (n : ℕ) → IsBuilt m → IsTrue (is_complete_in (env m) (StructTag n))
    → ((t : Ty) → IsTrue (is_complete_in (env m) t) → part_count (layout_in (env m) t) < part_count (or_none (look (env m) n)) → AreInside (env m) (layout_in (env m) t).size (layout_in (env m) t).parts)
    → AreInside (env m) (or_none (look (env m) n)).size (or_none (look (env m) n)).parts
made_inside m n built there one =
    let h = made m n built there in
    let whole : or_none (look (env m) n) ≡ layout_of (env m) n (is_union_in m.done n) (named_members m n) = ap or_none h.laid in
    let lower : AreFewer (env m) (part_count (or_none (look (env m) n))) (named_members m n) = rw whole (members_fewer (env m) n (is_union_in m.done n) (named_members m n)) in
    tag_inside (env m) n (is_union_in m.done n) (named_members m n) whole (all_inside (env m) _ (named_members m n) h.complete lower one)

-- the parts behind the whole end where the others do
AreInside-behind : (env : List Entry) (s : ℕ) (ps : List Part) → AreInside env s ps → AreInside env s (behind_whole ps)
AreInside-behind env s [] i = tt
AreInside-behind env s (p ∷ ps) i = i.1

-- a type whose parts have this, where those with fewer parts have it
inside_here : (m : Known) (h : ℕ) (t : Ty) → IsBuilt m → IsTrue (is_complete_in (env m) t) → part_count (layout_in (env m) t) < suc h
    → ((u : Ty) → IsTrue (is_complete_in (env m) u) → part_count (layout_in (env m) u) < h → AreInside (env m) (layout_in (env m) u).size (layout_in (env m) u).parts)
    → AreInside (env m) (layout_in (env m) t).size (layout_in (env m) t).parts
inside_here m h (IntTy k) built c lt one = (omega arith, tt)
inside_here m h (PointerTo t) built c lt one = (omega arith, tt)
inside_here m h (ArrayOf t None) built c lt one = cc
inside_here m h (ArrayOf t (Some n)) built c lt one =
    let fewer = element_fewer (env m) t n (lt_true 0 n (left_true _ (is_complete_in (env m) t) c)) in
    (omega arith, AreInside-repeated (env m) n (layout_in (env m) t).size (layout_in (env m) t).parts (one t (right_true _ _ c) (omega (arith, lt, fewer))))
inside_here m h (StructTag n) built c lt one = made_inside m n built c (λ u d l. one u d (omega (arith, lt, l)))
inside_here m h (UnionTag n) built c lt one = made_inside m n built c (λ u d l. one u d (omega (arith, lt, l)))
inside_here m h (ConstOf t) built c lt one =
    let more = const_count t (layout_in (env m) t) in
    let all = inside_here m h t built c (omega (arith, lt, more)) one in
    (omega arith, AreInside-behind (env m) (layout_in (env m) t).size (layout_in (env m) t).parts all)
inside_here m h VoidTy built c lt one = cc
inside_here m h (FunctionTy t ts v) built c lt one = cc

inside_below : (m : Known) (h : ℕ) (t : Ty) → IsBuilt m → IsTrue (is_complete_in (env m) t) → part_count (layout_in (env m) t) < h → AreInside (env m) (layout_in (env m) t).size (layout_in (env m) t).parts
inside_below m zero t built c lt = absurd (omega arith)
inside_below m (suc h) t built c lt = inside_here m h t built c lt (λ u d l. inside_below m h u built d l)

pub inside : (m : Known) (t : Ty) → IsBuilt m → IsTrue (is_complete_in (env m) t) → AreInside (env m) (layout_in (env m) t).size (layout_in (env m) t).parts
inside m t built c = inside_below m (suc (part_count (layout_in (env m) t))) t built c (omega arith)
