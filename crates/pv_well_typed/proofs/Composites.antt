-- The composite type of two compatible types is one that declarations make, where the two are so (C17 6.2.7p3).
use Rattle.std.proofs.Common.{◌≡◌, ℕ, ◌≤◌, ◌*◌, Bool, true, false, ◌&&◌, Option, Some, None, List, refl, sym, ap, subst, ◌∙◌}
use Rattle.std.specs.Prelude.{◌^◌, nat_lt}
use Rattle.std.specs.Bool.{beq}
use Rattle.pv_types.specs.Compatible.{are_compatible, is_constant}
use Rattle.pv_types.specs.Layouts.{Entry, layout_in, is_complete_in}
use Rattle.pv_types.specs.Matching.{Matches}
use Rattle.pv_types.specs.Ty.{Ty, VoidTy, IntTy, PointerTo, ArrayOf, StructTag, UnionTag, FunctionTy, ConstOf}
use Rattle.pv_types.proofs.Matched.{matching_array, matching_result, matching_size}
use Rattle.pv_typed.specs.TypedUnits.{WholeUnit, layouts}
use Rattle.pv_check.specs.Composite.{composite_of}
use Rattle.std.specs.Option.{option_or}
use Rattle.pv_typed.specs.TypedTree.{is_function}
use Rattle.pv_well_typed.specs.Proper.{IsValueOrVoid, IsSmallArray, IsProper}

-- ---- sizes: a complete type has the size of its composite type with another

pub composite-complete : (es : List Entry) (t u : Ty) → is_complete_in es t ≡ true → is_complete_in es (composite_of t u) ≡ true
composite-complete es (PointerTo t) (PointerTo u) h = refl
composite-complete es (ArrayOf t None) (ArrayOf u n) h = absurd cc
composite-complete es (ArrayOf t (Some m)) (ArrayOf u n) h =
    let b = both (nat_lt 0 m) (is_complete_in es t) h in
    rw (b.0) (composite-complete es t u b.1)
  where
    both : (a b : Bool) → (a && b) ≡ true → (a ≡ true) × (b ≡ true)
    both true b e = (refl, e)
    both false b e = absurd cc
composite-complete es (FunctionTy t ts c) (FunctionTy u us d) h = absurd cc
composite-complete es (ConstOf t) (ConstOf u) h = composite-complete es t u h
composite-complete es _ _ h = h

pub composite-size : (es : List Entry) (t u : Ty) → is_complete_in es t ≡ true → (layout_in es (composite_of t u)).size ≡ (layout_in es t).size
composite-size es (PointerTo t) (PointerTo u) h = refl
composite-size es (ArrayOf t None) (ArrayOf u n) h = absurd cc
composite-size es (ArrayOf t (Some m)) (ArrayOf u n) h = ap (λ s. m * s) (composite-size es t u (right (nat_lt 0 m) (is_complete_in es t) h))
  where
    right : (a b : Bool) → (a && b) ≡ true → b ≡ true
    right true b e = e
    right false b e = absurd cc
composite-size es (FunctionTy t ts c) (FunctionTy u us d) h = absurd cc
composite-size es (ConstOf t) (ConstOf u) h = composite-size es t u h
composite-size es _ _ h = refl

-- ---- the layers of a type

pub composite-plain : (t u : Ty) → IsValueOrVoid t → IsValueOrVoid (composite_of t u)
composite-plain (PointerTo t) (PointerTo u) h = tt
composite-plain (ArrayOf t m) (ArrayOf u n) h = absurd h
composite-plain (FunctionTy t ts c) (FunctionTy u us d) h = absurd h
composite-plain (ConstOf t) (ConstOf u) h = absurd h
composite-plain _ _ h = h

pub composite-no-function : (t u : Ty) → is_function t ≡ false → is_function (composite_of t u) ≡ false
composite-no-function (PointerTo t) (PointerTo u) h = refl
composite-no-function (ArrayOf t m) (ArrayOf u n) h = refl
composite-no-function (FunctionTy t ts c) (FunctionTy u us d) h = absurd cc
composite-no-function (ConstOf t) (ConstOf u) h = refl
composite-no-function _ _ h = h

matching-pointer : (t u : Ty) → Matches (PointerTo t) (PointerTo u) → Matches t u
matching-pointer t u h = record { left = _; right = _; same = right (beq (is_constant h.left) (is_constant h.right)) _ h.same }
  where
    right : (a b : Bool) → (a && b) ≡ true → b ≡ true
    right true b e = e
    right false b e = absurd cc

-- under `const` as well
matching-const : (t u : Ty) → Matches (ConstOf t) (ConstOf u) → Matches t u
matching-const t u h = record { left = _; right = _; same = h.same }

module _ (v : WholeUnit) where
  -- 6.7.6.2: a size that one of the two knows
  small-array : (t u : Ty) (m n : Option ℕ) → Matches t u → is_complete_in (layouts v) t ≡ true → is_complete_in (layouts v) u ≡ true → IsSmallArray v t m → IsSmallArray v u n → IsSmallArray v (composite_of t u) (option_or m n)
  small-array t u (Some m) n same p q h g = subst (λ s. m * s ≤ 2 ^ 32) (sym (composite-size (layouts v) t u p)) h
  small-array t u None None same p q h g = tt
  small-array t u None (Some n) same p q h g =
      subst (λ s. n * s ≤ 2 ^ 32) (sym (composite-size (layouts v) t u p ∙ matching_size (layouts v) t u same p q)) g

  pub proper-composite : (t u : Ty) → Matches t u → IsProper v t → IsProper v u → IsProper v (composite_of t u)
  proper-composite (PointerTo t) (PointerTo u) same h g = proper-composite t u (matching-pointer t u same) h g
  proper-composite (ArrayOf t m) (ArrayOf u n) same h g =
      let inner = matching_array t u m n same in
      (proper-composite t u inner h.0 g.0, composite-complete (layouts v) t u h.1, small-array t u m n inner h.1 g.1 h.2 g.2)
  proper-composite (FunctionTy t ts c) (FunctionTy u us d) same h g = (composite-plain t u h.0, proper-composite t u (matching_result t u ts us c d same) h.1 g.1, h.2)
  proper-composite (ConstOf t) (ConstOf u) same h g = (composite-plain t u h.0, proper-composite t u (matching-const t u same) h.1 g.1)
  proper-composite _ _ same h g = h

-- 6.2.7p1: of two compatible types that have no qualifiers, where the one is no function, so is the other
pub both-functions : (t u : Ty) → IsValueOrVoid u → are_compatible t u ≡ true → is_function t ≡ false
unfolding are_compatible
both-functions (FunctionTy t ts c) VoidTy p e = absurd cc
both-functions (FunctionTy t ts c) (IntTy k) p e = absurd cc
both-functions (FunctionTy t ts c) (PointerTo u) p e = absurd cc
both-functions (FunctionTy t ts c) (ArrayOf u n) p e = absurd p
both-functions (FunctionTy t ts c) (StructTag n) p e = absurd cc
both-functions (FunctionTy t ts c) (UnionTag n) p e = absurd cc
both-functions (FunctionTy t ts c) (FunctionTy u us d) p e = absurd p
both-functions (FunctionTy t ts c) (ConstOf u) p e = absurd p
both-functions VoidTy u p e = refl
both-functions (IntTy k) u p e = refl
both-functions (PointerTo t) u p e = refl
both-functions (ArrayOf t n) u p e = refl
both-functions (StructTag n) u p e = refl
both-functions (UnionTag n) u p e = refl
both-functions (ConstOf t) u p e = refl
