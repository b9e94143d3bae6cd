-- A table of types in which one tag more is completed.
use Rattle.std.proofs.Common.{◌≡◌, ℕ, ◌*◌, ◌<◌, ◌≤◌, ◌^◌, ◌==◌, nat_le, Bool, true, false, ◌&&◌, Some, None, is_some, Option, List, [], ◌∷◌, ◌++◌, length, IsTrue, refl, sym, ap, subst, arith, ◌∙◌}
use Rattle.std.specs.Prelude.{if◌then◌else◌}
use Rattle.pv_types.specs.declared.terms.Member.{Member}
use Rattle.pv_types.specs.Ty.{Ty, VoidTy, IntTy, PointerTo, ArrayOf, StructTag, UnionTag, FunctionTy, ConstOf}
use Rattle.pv_types.specs.Known.{Known, DoneTag, heading_at, env, tree, trees, named_in}
use Rattle.pv_types.specs.Formed.{parameters_at, MembersBelow, AreComplete}
use Rattle.pv_types.specs.Layouts.{Entry, Layout, Named, look, layout_in, is_complete_in, tag_type, up_to}
use Rattle.pv_types.specs.LayoutParts.{or_none}
use Rattle.pv_types.proofs.Built.{entry_of, env-complete}
use Rattle.pv_types.proofs.LayoutLaws.{layout-append, complete-append, look-last, AreComplete-append}
use Rattle.pv_typed.specs.Tables.{Stored}
use Rattle.pv_typed.specs.Formed.{Grown}
use Rattle.pv_check.specs.Growing.{is_sized, AreSized, Lengthens}
use Rattle.pv_check.specs.Open.{Goes}
use Rattle.pv_check.proofs.Growth.{left_true, right_true, both_true}

-- a tag more that is small
tags_small : (es : List Entry) (e : Entry) (n : ℕ) → IsTrue (is_sized es (StructTag n)) → nat_le e.layout.size (2 ^ 32) ≡ true → IsTrue (is_sized (es ++ (e ∷ [])) (StructTag n))
tags_small [] e n h k = here (e.tag == n)
  where
    here : (b : Bool) → nat_le (or_none (if b then Some e.layout else None)).size (2 ^ 32) ≡ true
    here true = k
    here false = h
tags_small (x ∷ xs) e n h k = here (x.tag == n) h (λ g. tags_small xs e n g k)
  where
    here : (b : Bool) → nat_le (or_none (if b then Some x.layout else look xs n)).size (2 ^ 32) ≡ true
        → (IsTrue (is_sized xs (StructTag n)) → IsTrue (is_sized (xs ++ (e ∷ [])) (StructTag n)))
        → nat_le (or_none (if b then Some x.layout else look (xs ++ (e ∷ [])) n)).size (2 ^ 32) ≡ true
    here true g f = g
    here false g f = f g

array_same : (es fs : List Entry) (t : Ty) (n : Option ℕ) → IsTrue (is_complete_in es t) → (layout_in (es ++ fs) (ArrayOf t n)).size ≡ (layout_in es (ArrayOf t n)).size
array_same es fs t None h = refl
array_same es fs t (Some n) h = ap (λ (l : Layout). n * l.size) (layout-append es fs t h)

sized_more : (es : List Entry) (e : Entry) (t : Ty) → ((n : ℕ) → IsTrue (is_sized (es ++ (e ∷ [])) (StructTag n))) → IsTrue (is_sized es t) → IsTrue (is_sized (es ++ (e ∷ [])) t)
sized_more es e VoidTy tags h = refl
sized_more es e (IntTy k) tags h = refl
sized_more es e (PointerTo t) tags h = refl
sized_more es e (FunctionTy t ts v) tags h = refl
sized_more es e (StructTag n) tags h = tags n
sized_more es e (UnionTag n) tags h = tags n
sized_more es e (ConstOf t) tags h = sized_more es e t tags h
sized_more es e (ArrayOf t n) tags h =
    let both = left_true (is_complete_in es t && is_sized es t) _ h in
    let complete : is_complete_in es t ≡ true = left_true (is_complete_in es t) _ both in
    let inner : is_sized es t ≡ true = right_true (is_complete_in es t) _ both in
    let small : nat_le (layout_in es (ArrayOf t n)).size (2 ^ 32) ≡ true = right_true (is_complete_in es t && is_sized es t) _ h in
    both_true (both_true (complete-append es (e ∷ []) t complete ∙ complete) (sized_more es e t tags inner))
    (ap (λ k. nat_le k (2 ^ 32)) (array_same es (e ∷ []) t n complete) ∙ small)

abbrev pub with_done : Known → DoneTag → Known
with_done m d = record m { done = m.done ++ (d ∷ []) }

abbrev pub entry_for : Known → DoneTag → Entry
entry_for m d = entry_of (trees m) m.done d

pub env_done : (m : Known) (d : DoneTag) → env (with_done m d) ≡ env m ++ (entry_for m d ∷ [])
env_done m d = env-complete (trees m) m.done d

sized_done : (m : Known) (d : DoneTag) → AreSized m → nat_le (entry_for m d).layout.size (2 ^ 32) ≡ true → AreSized (with_done m d)
sized_done m d h small =
    let es = env m in
    let tags : (n : ℕ) → IsTrue (is_sized (es ++ (entry_for m d ∷ [])) (StructTag n)) = λ n. tags_small es (entry_for m d) n (h.tags n) small in
    record {
      types = λ i lt. subst (λ x. IsTrue (is_sized x (tree m i))) (sym (env_done m d)) (sized_more es (entry_for m d) (tree m i) tags (h.types i lt));
      tags = λ n. subst (λ x. IsTrue (is_sized x (StructTag n))) (sym (env_done m d)) (tags n);
    }

-- the layout of the completed tag is the one that is looked up
tag_layout : (es : List Entry) (union : Bool) (n : ℕ) → layout_in es (tag_type union n) ≡ or_none (look es n)
tag_layout es true n = refl
tag_layout es false n = refl

pub size_done : (m : Known) (d : DoneTag) (union : Bool) → look (env m) d.tag ≡ None → (layout_in (env (with_done m d)) (tag_type union d.tag)).size ≡ (entry_for m d).layout.size
size_done m d union fresh =
    ap (λ es. (layout_in es (tag_type union d.tag)).size) (env_done m d)
    ∙ ap (λ (l : Layout). l.size) (tag_layout (env m ++ (entry_for m d ∷ [])) union d.tag ∙ ap or_none (look-last (env m) d.tag (entry_for m d).layout fresh))

pub goes_done : (a b : Stored) (d : DoneTag) → Grown a b → b.known ≡ with_done a.known d → nat_le (entry_for a.known d).layout.size (2 ^ 32) ≡ true → Goes a b
goes_done a b d grown e small = record {
  grown = grown;
  headings = λ n lt. ap (λ (m : Known). heading_at m.tags n) e;
  parameters = λ p lt. ap (λ (m : Known). parameters_at m p) e;
  sized = λ h. subst AreSized (sym e) (sized_done a.known d h small);
  completed = (entry_for a.known d ∷ [], ap env e ∙ env_done a.known d);
}

-- ---- members, in tables that have more

complete_more : (es fs : List Entry) (ns : List Named) → Lengthens es fs → AreComplete es ns → AreComplete fs ns
complete_more es fs ns h k = subst (λ xs. AreComplete xs ns) (sym h.1) (AreComplete-append es h.0 ns k)

pub complete_stays : (a b : Stored) (ns : List Named) → Goes a b → AreComplete (env a.known) ns → AreComplete (env b.known) ns
complete_stays a b ns g h = complete_more (env a.known) (env b.known) ns g.completed h

pub members_below : (a b : Stored) (ms : List Member) → Goes a b → MembersBelow (length a.known.terms) ms → MembersBelow (length b.known.terms) ms
members_below a b [] g h = tt
members_below a b (m ∷ ms) g h =
    let more : length a.known.terms ≤ length b.known.terms = g.grown.terms in
    let here : m.t.0 < length a.known.terms = h.0 in
    (omega (arith, more, here), members_below a b ms g h.1)

pub members_stay : (a b : Stored) (ms : List Member) → Goes a b → MembersBelow (length a.known.terms) ms → named_in (trees b.known) ms ≡ named_in (trees a.known) ms
members_stay a b [] g h = refl
members_stay a b (m ∷ ms) g h =
    ap (λ (t : Ty). record { name = m.name; t = t } ∷ named_in (trees b.known) ms) (g.grown.types m.t.0 h.0)
    ∙ ap (λ (xs : List Named). record { name = m.name; t = tree a.known m.t.0 } ∷ xs) (members_stay a b ms g h.1)

-- ---- what is filled

pub measured : (n : ℕ) → nat_le n (2 ^ 32) ≡ is_some (up_to n)
measured n = here (nat_le n (2 ^ 32))
  where
    here : (b : Bool) → b ≡ is_some (if b then Some n else None)
    here true = refl
    here false = refl

complete_tag : (es : List Entry) (union : Bool) (n : ℕ) → is_complete_in es (tag_type union n) ≡ is_some (look es n)
complete_tag es true n = refl
complete_tag es false n = refl

pub complete_done : (m : Known) (d : DoneTag) (union : Bool) → look (env m) d.tag ≡ None → is_complete_in (env (with_done m d)) (tag_type union d.tag) ≡ true
complete_done m d union fresh =
    ap (λ es. is_complete_in es (tag_type union d.tag)) (env_done m d)
    ∙ complete_tag (env m ++ (entry_for m d ∷ [])) union d.tag
    ∙ ap is_some (look-last (env m) d.tag (entry_for m d).layout fresh)

-- a tag that was filled and is measured
pub goes_filled : (a b : Stored) (d : DoneTag) (union : Bool) (n : ℕ) → Grown a b → b.known ≡ with_done a.known d → look (env a.known) d.tag ≡ None
    → n ≡ (layout_in (env b.known) (tag_type union d.tag)).size → is_some (up_to n) ≡ true → Goes a b
goes_filled a b d union n grown e fresh size fits =
    goes_done a b d grown e
    (ap (λ k. nat_le k (2 ^ 32)) (sym (size_done a.known d union fresh) ∙ ap (λ (m : Known). (layout_in (env m) (tag_type union d.tag)).size) (sym e) ∙ sym size)
    ∙ measured n ∙ fits)
