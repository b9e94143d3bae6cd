-- So many initializers of an array of unknown size have room in the largest object.
use Rattle.std.proofs.Common.{◌≡◌, ℕ, ◌+◌, ◌*◌, ◌<◌, ◌≤◌, ◌^◌, ◌⊎◌, inl, inr, Bool, true, false, nat_le, List, Option, Some, None, option_map, Result, Ok, Err, IfOk, IfSome, length, refl, sym, ap, subst, arith}
use Rattle.std.specs.Prelude.{◌&&◌, if◌then◌else◌}
use Rattle.std.proofs.Math.Nat.{mul-le-mul_left}
use Rattle.std.proofs.lemmas.Bool.Decides.{nat_tests}
use Rattle.pv_types.specs.declared.terms.TypeId.{TypeId}
use Rattle.pv_types.specs.Known.{Known, tree, env}
use Rattle.pv_types.specs.Ty.{Ty, VoidTy, IntTy, PointerTo, ArrayOf, StructTag, UnionTag, FunctionTy, ConstOf}
use Rattle.pv_types.specs.Layouts.{Part, Entry, Completed, Layout, layout_in, layouts_of, is_complete_in}
use Rattle.pv_types.specs.Sorts.{bare_type}
use Rattle.pv_check.specs.Growing.{AreSized}
use Rattle.pv_check.proofs.Growth.{sized_small}
use Rattle.pv_unit.specs.Initializers.{filled_type}
use Rattle.pv_unit.specs.Parts.{is_text, part_at, can_be_initialized}
use Rattle.pv_unit.specs.Subobjects.{fits, HasSpace, HasSpaceIf, IsPart}
use Rattle.pv_unit.proofs.Fitting.{array_complete}
use Rattle.pv_unit.proofs.Texts.{small_text}

pub space_one : (e : List Entry) (t : Ty) (n : ℕ) → n ≤ 1 → HasSpace e t n
space_one e (ArrayOf t None) n h = inl h
space_one e (ArrayOf t (Some k)) n h = tt
space_one e (ConstOf t) n h = tt
space_one e VoidTy n h = tt
space_one e (IntTy k) n h = tt
space_one e (PointerTo t) n h = tt
space_one e (StructTag k) n h = tt
space_one e (UnionTag k) n h = tt
space_one e (FunctionTy t ts v) n h = tt

at_most : (a b : ℕ) → nat_le a b ≡ true → a ≤ b
at_most a b e = grind (arith, nat_tests)

was_there : {A B : Type 0} (f : A → B) (b : Bool) (x : A) (y : B) → Some y ≡ option_map f (if b then Some x else None) → b ≡ true
was_there f true x y e = refl
was_there f false x y e = cc

was_some : {A : Type 0} (b : Bool) (x y : A) → Some y ≡ (if b then Some x else None) → b ≡ true
was_some true x y e = refl
was_some false x y e = cc

-- string literals fill it
pub space_text : (e : List Entry) (t : Ty) (n : ℕ) (r : Ty) → is_text t ≡ true → Some r ≡ filled_type (bare_type t) n → HasSpace e t n
space_text e (ArrayOf t None) n r text h = inr (small_text e t n text (at_most n (2 ^ 32) (was_some _ _ r h)))
space_text e (ArrayOf t (Some k)) n r text h = tt
space_text e (ConstOf t) n r text h = tt
space_text e VoidTy n r text h = tt
space_text e (IntTy k) n r text h = tt
space_text e (PointerTo t) n r text h = tt
space_text e (StructTag k) n r text h = tt
space_text e (UnionTag k) n r text h = tt
space_text e (FunctionTy t ts v) n r text h = tt

-- there is a next part
pub space_next : (done : List Completed) (o : ℕ) (t : Ty) (i : ℕ) (q : Part) → Some q ≡ part_at done (record { offset = o; t = t }) i → HasSpace (layouts_of done) t (i + 1)
space_next done o (ArrayOf t None) i q e = inr (at_most _ _ (was_there _ _ _ q e))
space_next done o (ArrayOf t (Some k)) i q e = tt
space_next done o (ConstOf t) i q e = tt
space_next done o VoidTy i q e = tt
space_next done o (IntTy k) i q e = tt
space_next done o (PointerTo t) i q e = tt
space_next done o (StructTag k) i q e = tt
space_next done o (UnionTag k) i q e = tt
space_next done o (FunctionTy t ts v) i q e = tt

-- while tables grow
pub space_grown : (old new : List Entry) (o : ℕ) (t : Ty) (n : ℕ) → ((u : Ty) → is_complete_in old u ≡ true → layout_in new u ≡ layout_in old u) → fits old o t ≡ true → HasSpace old t n → HasSpace new t n
space_grown old new o (ArrayOf t None) n l e (inl h) = inl h
space_grown old new o (ArrayOf t None) n l e (inr h) =
    let same = ap (λ (x : Layout). x.size) (l t (array_complete old o t None e)) in
    inr (subst (λ k. n * k ≤ 2 ^ 32) (sym same) h)
space_grown old new o (ArrayOf t (Some k)) n l e h = tt
space_grown old new o (ConstOf t) n l e h = tt
space_grown old new o VoidTy n l e h = tt
space_grown old new o (IntTy k) n l e h = tt
space_grown old new o (PointerTo t) n l e h = tt
space_grown old new o (StructTag k) n l e h = tt
space_grown old new o (UnionTag k) n l e h = tt
space_grown old new o (FunctionTy t ts v) n l e h = tt

-- ---- an object

-- an array of so many elements is no larger than the largest object
pub small_space : (n size : ℕ) → size ≤ 2 ^ 32 → (n ≤ 1) ⊎ (n * size ≤ 2 ^ 32) → n * size ≤ 2 ^ 32
small_space n size small (inr h) = h
small_space n size small (inl h) = let less = mul-le-mul_left size h in omega (arith, less, small)

whole_either : (c x y : Bool) → (c ≡ true → x ≡ true) → y ≡ true → (if c then x else (y && true)) ≡ true
whole_either true x y f e = f refl
whole_either false x true f e = refl
whole_either false x false f e = cc

below : (n : ℕ) → n ≤ 2 ^ 32 → nat_le (0 + n) (2 ^ 32) ≡ true
below n h = grind (arith, nat_tests)

-- an object is a part of itself
pub whole_part : (m : Known) (t : TypeId) → AreSized m → t.0 < length m.terms → can_be_initialized (env m) (tree m t.0) ≡ true → IsPart m (record { offset = 0; t = t })
whole_part m t s lt can = record {
  known = lt;
  fits = whole_either (is_complete_in (env m) (tree m t.0)) _ _ (λ c. below _ (sized_small (env m) (tree m t.0) (s.types t.0 lt))) can;
}
