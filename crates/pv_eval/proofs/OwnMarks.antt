-- A scalar in an allocation that is read at the type at which it was stored.
use Rattle.std.proofs.Common.{◌≡◌, ℕ, suc, ◌+◌, ◌-◌, ◌<◌, ◌==◌, Bool, true, false, not, ◌&&◌, ◌||◌, List, [], ◌∷◌, length, Option, Some, None, refl, ap, ◌∙◌, subst, arith, eqb-true, eq-eqb}
use Rattle.std.specs.Prelude.{if◌then◌else◌}
use Rattle.std.proofs.lemmas.Bool.{lt-ltb, le-leb}
use Rattle.pv_types.specs.Ty.{Ty, VoidTy, IntTy, PointerTo, ArrayOf, StructTag, UnionTag, FunctionTy, ConstOf}
use Rattle.pv_types.specs.Layouts.{Part, Entry, layout_in}
use Rattle.pv_types.specs.Known.{Known, tree, env}
use Rattle.pv_types.specs.Formed.{IsBuilt}
use Rattle.pv_layout.specs.Parts.{leaves, are_counterparts}
use Rattle.pv_types.specs.Sorts.{bare_type, is_scalar, is_character, is_scalar_in}
use Rattle.pv_effect.specs.EffectiveType.{same_or_counterpart, anything, some_over, permits_byte, permits_bytes, permits_marks}
use Rattle.pv_types.specs.SameTypes.{same_type}
use Rattle.pv_shadow.specs.declared.byte.Byte.{Byte}
use Rattle.pv_shadow.specs.Readings.{has_mark, are_marked}
use Rattle.pv_eval.specs.Sizes.{size_in}
use Rattle.pv_eval.specs.PermissionParts.{marks_of}
use Rattle.pv_eval.proofs.Numbers.{same}

left_true : (a b : Bool) → (a && b) ≡ true → a ≡ true
left_true true b h = refl
left_true false b h = h

right_true : (a b : Bool) → (a && b) ≡ true → b ≡ true
right_true true b h = h
right_true false b h = absurd cc

mark_is : (o : Option (ℕ × ℕ)) (t j : ℕ) → has_mark o t j ≡ true → o ≡ Some (t, j)
mark_is None t j h = absurd cc
mark_is (Some (u, k)) t j h =
    let p : u ≡ t = eqb-true u t (left_true (u == t) (k == j) h) in
    let q : k ≡ j = eqb-true k j (right_true (u == t) (k == j) h) in
    λ i. Some (p i, q i)

abbrev one_part : Ty → List Part
one_part t = record { offset = 0; t = t } ∷ []

-- a scalar is its own one part
record IsOne (es : List Entry) (t : Ty) : Type 0 where
  parts : (layout_in es t).parts ≡ one_part t
  scalar : is_scalar t ≡ true
  unqualified : bare_type t ≡ t

is-one : (es : List Entry) (t : Ty) → is_scalar_in t ≡ true → IsOne es t
is-one es (IntTy k) h = record { parts = refl; scalar = refl; unqualified = refl }
is-one es (PointerTo t) h = record { parts = refl; scalar = refl; unqualified = refl }
is-one es VoidTy h = absurd cc
is-one es (ArrayOf t n) h = absurd cc
is-one es (StructTag n) h = absurd cc
is-one es (UnionTag n) h = absurd cc
is-one es (FunctionTy t ts v) h = absurd cc
is-one es (ConstOf t) h = absurd cc

one_accepted : (c q : Bool) → ((((true && true) && (c || (true && (true && true)))) || false) || q) ≡ true
one_accepted true q = refl
one_accepted false q = refl

module _ (m : Known) (i : ℕ) (built : IsBuilt m) (within : i < length m.terms) (one : IsOne (env m) (tree m i)) where
  abbrev t : Ty
  t = tree m i

  abbrev size : ℕ
  size = (layout_in (env m) t).size

  own_type : same_or_counterpart t t ≡ true
  own_type =
      let e : same_type (bare_type t) (bare_type t) ≡ true = ap (λ (x : Ty). same_type x x) one.unqualified ∙ same m i built within in
      ap (λ c. c || are_counterparts (bare_type t) (bare_type t)) e

  own_byte : (j : ℕ) → j < size → permits_byte m (one_part t) j (Some (i, j)) ≡ true
  own_byte j h =
      let here : j ≡ j - 0 = omega arith in
      let from = le-leb 0 j (omega arith) in
      let before = lt-ltb j (0 + size) (omega (arith, h)) in
      let known = lt-ltb i (length m.terms) within in
      let at : (j == j - 0) ≡ true = eq-eqb j (j - 0) here in
      (λ k. ((((from k && before k) && (is_character t || (known k && (at k && own_type k)))) || false) || not (some_over (env m) anything j (one_part t))))
      ∙ one_accepted (is_character t) (not (some_over (env m) anything j (one_part t)))

  own_from : (bs : List Byte) (j : ℕ) → j + length bs ≡ size → are_marked bs i j ≡ true → permits_bytes m (one_part t) j (marks_of bs) ≡ true
  own_from [] j e h = refl
  own_from (b ∷ bs) j e h =
      let next : j + 1 ≡ suc j = omega arith in
      let mark = mark_is b.mark i j (left_true (has_mark b.mark i j) (are_marked bs i (j + 1)) h) in
      let rest = own_from bs (suc j) (omega (arith, e)) (subst (λ k. are_marked bs i k ≡ true) next (right_true (has_mark b.mark i j) (are_marked bs i (j + 1)) h)) in
      ap (λ o. permits_byte m (one_part t) j o && permits_bytes m (one_part t) (suc j) (marks_of bs)) mark
      ∙ ap (λ c. c && permits_bytes m (one_part t) (suc j) (marks_of bs)) (own_byte j (omega (arith, e)))
      ∙ rest

  own_all : (bs : List Byte) → length bs ≡ size → are_marked bs i 0 ≡ true → permits_marks m (layout_in (env m) t).parts (marks_of bs) ≡ true
  own_all bs e h =
      ap (λ ps. permits_bytes m (leaves ps) 0 (marks_of bs)) one.parts
      ∙ ap (λ c. permits_bytes m (if c then one_part t else []) 0 (marks_of bs)) one.scalar
      ∙ own_from bs 0 (omega (arith, e)) h

pub own_store : (m : Known) (i : ℕ) (bs : List Byte) → IsBuilt m → i < length m.terms → is_scalar_in (tree m i) ≡ true → length bs ≡ size_in m (tree m i) → are_marked bs i 0 ≡ true → permits_marks m (layout_in (env m) (tree m i)).parts (marks_of bs) ≡ true
own_store m i bs built within scalar long marked = own_all m i built within (is-one (env m) (tree m i) scalar) bs long marked
