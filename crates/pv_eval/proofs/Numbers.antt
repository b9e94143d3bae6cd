-- The numbers of types, and their alignments.
use Rattle.std.proofs.Common.{◌≡◌, ℕ, ◌<◌, ◌≤◌, ◌==◌, Bool, true, false, List, length, Some, get_or, refl, sym, ap, ◌∙◌, subst, arith, ⊎_elim}
use Rattle.std.specs.Prelude.{Option, None, zero, suc, ◌*◌, ◌^◌, ◌&&◌, nat_lt, nat_le, if◌then◌else◌, is_some, position, unwrap_or}
use Rattle.std.specs.List.{position_or_len}
use Rattle.std.proofs.lemmas.Bool.{cases_lt, lt-ltb, ltb-false, leb-true}
use Rattle.std.proofs.lemmas.List.{get_or_past}
use Rattle.std.proofs.lemmas.Bool.Decides.{Decides-eqb}
use Rattle.std.proofs.lemmas.Grind.{common_steps}
use Rattle.std.proofs.lemmas.List.Sums.{passes_at_first, fails_before_first}
use Rattle.pv_types.specs.Ty.{Ty, VoidTy, IntTy, PointerTo, ArrayOf, StructTag, UnionTag, FunctionTy, ConstOf}
use Rattle.pv_types.specs.Known.{Known, tree, trees, env}
use Rattle.pv_types.specs.Formed.{IsBuilt}
use Rattle.pv_types.specs.Layouts.{up_to, Layout, Entry, look, layout_in, is_complete_in}
use Rattle.pv_types.specs.LayoutParts.{or_none}
use Rattle.pv_types.proofs.Trees.{length-trees}
use Rattle.pv_types.proofs.Peeling.{positive_align}
use Rattle.pv_types.specs.SameTypes.{same_type}
use Rattle.pv_effect.proofs.Same.{same_number}
use Rattle.pv_eval.specs.TypeForms.{number_of}

apart : true ≡ false → ⊥
apart e = cc

-- the number of no type
pub outside : (m : Known) (i : ℕ) → nat_lt i (length m.terms) ≡ false → tree m i ≡ VoidTy
outside m i e = get_or_past (trees m) i VoidTy (omega (arith, length-trees m.lists m.terms, ltb-false i (length m.terms) e))

-- the first place that passes
first_is : {X : Type 0} (p : X → Bool) (xs : List X) (i : ℕ) (d : X) → i < length xs → p (get_or xs i d) ≡ true → ((k : ℕ) → k < i → p (get_or xs k d) ≡ false) → position_or_len p xs ≡ i
first_is p xs i d l t f =
    ⊎_elim
    (λ low. absurd (apart (sym (passes_at_first p xs d (omega (arith, low, l))) ∙ f (position_or_len p xs) low)))
    (λ up. ⊎_elim
    (λ high. absurd (apart (sym t ∙ fails_before_first p xs i d high)))
    (λ down. omega (arith, up, down))
    (cases_lt i (position_or_len p xs)))
    (cases_lt (position_or_len p xs) i)

first_at : {X : Type 0} (p : X → Bool) (xs : List X) (i : ℕ) (d : X) → i < length xs → p (get_or xs i d) ≡ true → ((k : ℕ) → k < i → p (get_or xs k d) ≡ false) → position p xs ≡ Some i
first_at p xs i d l t f = let e = first_is p xs i d l t f in grind (arith, common_steps)

other : (m : Known) (i k : ℕ) → IsBuilt m → i < length m.terms → k < i → same_type (tree m i) (tree m k) ≡ false
other m i k built l h = sym (same_number m i k built l (omega (arith, h, l))) ∙ apart_eq i k h
  where
    apart_eq : (i k : ℕ) → k < i → (i == k) ≡ false
    apart_eq i k h = grind arith

pub same : (m : Known) (i : ℕ) → IsBuilt m → i < length m.terms → same_type (tree m i) (tree m i) ≡ true
same m i built l = sym (same_number m i i built l l) ∙ (Decides-eqb i i).1 refl

-- a type has the number under which it was made
pub number_is : (m : Known) (i : ℕ) → IsBuilt m → i < length m.terms → number_of m (tree m i) ≡ i
number_is m i built l =
    ap (λ o. unwrap_or o 0) (first_at (same_type (tree m i)) (trees m) i VoidTy (omega (arith, l, length-trees m.lists m.terms)) (same m i built l) (λ k h. other m i k built l h))

pub number_of_tree : (m : Known) (i : ℕ) (t : Ty) → IsBuilt m → i < length m.terms → tree m i ≡ t → number_of m t ≡ i
number_of_tree m i t built l e = subst (λ u. number_of m u ≡ i) e (number_is m i built l)

pub some_align : (m : Known) (t : Ty) → IsBuilt m → 1 ≤ (layout_in (env m) t).align
some_align m t built = positive_align m t built

none_size : (o : Option Layout) → is_some o ≡ false → (or_none o).size ≡ 0
none_size None e = refl
none_size (Some l) e = absurd (apart e)

-- n times nothing, where n is none or the elements have no size
no_array : (n s : ℕ) (c : Bool) → (c ≡ false → s ≡ 0) → (nat_lt 0 n && c) ≡ false → n * s ≡ 0
no_array zero s c h e = grind (arith)
no_array (suc n) s true h e =
    let positive : 0 < suc n = grind (arith) in
    absurd (apart (sym (ap (λ k. k && true) (lt-ltb 0 (suc n) positive)) ∙ e))
no_array (suc n) s false h e = let z = h refl in grind (arith, z)

-- a type that is not complete has no size
pub incomplete_size : (es : List Entry) (t : Ty) → is_complete_in es t ≡ false → (layout_in es t).size ≡ 0
incomplete_size es (IntTy k) e = absurd (apart e)
incomplete_size es (PointerTo t) e = absurd (apart e)
incomplete_size es (ArrayOf t None) e = refl
incomplete_size es (ArrayOf t (Some n)) e = no_array n (layout_in es t).size (is_complete_in es t) (incomplete_size es t) e
incomplete_size es (StructTag n) e = none_size (look es n) e
incomplete_size es (UnionTag n) e = none_size (look es n) e
incomplete_size es (ConstOf t) e = incomplete_size es t e
incomplete_size es VoidTy e = refl
incomplete_size es (FunctionTy t ts v) e = refl

pub no_size : (es : List Entry) (t : Ty) → is_complete_in es t ≡ false → Some 0 ≡ up_to (layout_in es t).size
no_size es t e = ap up_to (sym (incomplete_size es t e))

-- a size that is kept
pub record IsKept (n m : ℕ) : Type 0 where
  pub same : n ≡ m
  pub test : nat_le n (2 ^ 32) ≡ true
  pub small : n ≤ 2 ^ 32
  pub also : m ≤ 2 ^ 32

kept_by : (c : Bool) (n m : ℕ) → nat_le n (2 ^ 32) ≡ c → (if c then Some n else None) ≡ Some m → IsKept n m
kept_by true n m e h =
    let same : n ≡ m = cc in
    let small : n ≤ 2 ^ 32 = leb-true n (2 ^ 32) e in
    record { same = same; test = e; small = small; also = subst (λ k. k ≤ 2 ^ 32) same small }
kept_by false n m e h = absurd cc

pub kept : (n m : ℕ) → up_to n ≡ Some m → IsKept n m
kept n m h = kept_by (nat_le n (2 ^ 32)) n m refl h

lost_by : (c : Bool) (n : ℕ) → nat_le n (2 ^ 32) ≡ c → (if c then Some n else None) ≡ None → nat_le n (2 ^ 32) ≡ false
lost_by true n e h = absurd cc
lost_by false n e h = e

pub lost : (n : ℕ) → up_to n ≡ None → nat_le n (2 ^ 32) ≡ false
lost n h = lost_by (nat_le n (2 ^ 32)) n refl h
