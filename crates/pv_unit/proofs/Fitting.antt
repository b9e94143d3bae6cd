-- Parts that lie within the largest object.
use Rattle.std.proofs.Common.{◌≡◌, ℕ, ◌+◌, ◌*◌, ◌<◌, ◌≤◌, ◌^◌, ◌==◌, Bool, true, false, ◌&&◌, nat_le, nat_lt, if◌then◌else◌, List, Option, Some, None, refl, ap, arith, is_some}
use Rattle.std.proofs.lemmas.Bool.Decides.{nat_tests}
use Rattle.pv_types.specs.Ty.{Ty, VoidTy, IntTy, PointerTo, ArrayOf, StructTag, UnionTag, FunctionTy, ConstOf}
use Rattle.pv_types.specs.Layouts.{Entry, Layout, layout_in, is_complete_in, look}
use Rattle.pv_types.specs.LayoutParts.{or_none}
use Rattle.pv_types.specs.Sorts.{bare_type}
use Rattle.pv_unit.specs.Parts.{has_element, can_be_initialized}
use Rattle.pv_unit.specs.Subobjects.{fits, HasRoom}

both : (b x y : Bool) → (if b then x else (b && y)) ≡ true → (b ≡ true) × (x ≡ true)
both true x y e = (refl, e)
both false x y e = cc

both_and : (a b : Bool) → (a && b) ≡ true → (a ≡ true) × (b ≡ true)
both_and true b e = (refl, e)
both_and false b e = cc

under_const : (c x y z : Bool) → (if c then x else (c && y)) ≡ true → (if c then x else z) ≡ true
under_const true x y z e = e
under_const false x y z e = cc

-- what fits, fits without its qualifiers
pub bare_fits : (env : List Entry) (o : ℕ) (t : Ty) → fits env o t ≡ true → fits env o (bare_type t) ≡ true
bare_fits env o (ConstOf t) e = bare_fits env o t (under_const (is_complete_in env t) (nat_le (o + (layout_in env t).size) (2 ^ 32)) (o == 0) (can_be_initialized env t && (o == 0)) e)
bare_fits env o VoidTy e = e
bare_fits env o (IntTy k) e = e
bare_fits env o (PointerTo t) e = e
bare_fits env o (ArrayOf t n) e = e
bare_fits env o (StructTag n) e = e
bare_fits env o (UnionTag n) e = e
bare_fits env o (FunctionTy t ts v) e = e

at_most : (a b : ℕ) → nat_le a b ≡ true → a ≤ b
at_most a b e = grind (arith, nat_tests)

above : (a b : ℕ) → nat_lt a b ≡ true → a < b
above a b e = grind (arith, nat_tests)

is_zero : (o : ℕ) → (o == 0) ≡ true → o ≡ 0
is_zero o e = grind (arith, nat_tests)

-- an array that fits has complete elements, and room for them
pub array_complete : (env : List Entry) (o : ℕ) (t : Ty) (n : Option ℕ) → fits env o (ArrayOf t n) ≡ true → is_complete_in env t ≡ true
array_complete env o t None e = (both_and (is_complete_in env t) (o == 0) e).0
array_complete env o t (Some n) e =
    (both_and (nat_lt 0 n) (is_complete_in env t) (both (nat_lt 0 n && is_complete_in env t) (nat_le (o + n * (layout_in env t).size) (2 ^ 32)) (o == 0) e).0).1

pub array_room : (env : List Entry) (o : ℕ) (t : Ty) (n : Option ℕ) → (layout_in env t).size ≤ 2 ^ 32 → fits env o (ArrayOf t n) ≡ true → HasRoom (layout_in env t).size o n
array_room env o t None small e = (small, is_zero o (both_and (is_complete_in env t) (o == 0) e).1)
array_room env o t (Some n) small e =
    let h = both (nat_lt 0 n && is_complete_in env t) (nat_le (o + n * (layout_in env t).size) (2 ^ 32)) (o == 0) e in
    (above 0 n (both_and (nat_lt 0 n) (is_complete_in env t) h.0).0, at_most _ _ h.1)

-- a structure or union that fits is complete, and lies within
pub struct_fits : (env : List Entry) (o n : ℕ) → fits env o (StructTag n) ≡ true → (is_some (look env n) ≡ true) × (o + (or_none (look env n)).size ≤ 2 ^ 32)
struct_fits env o n e =
    let h = both (is_some (look env n)) (nat_le (o + (or_none (look env n)).size) (2 ^ 32)) (o == 0) e in
    (h.0, at_most _ _ h.1)

pub union_fits : (env : List Entry) (o n : ℕ) → fits env o (UnionTag n) ≡ true → (is_some (look env n) ≡ true) × (o + (or_none (look env n)).size ≤ 2 ^ 32)
union_fits env o n e =
    let h = both (is_some (look env n)) (nat_le (o + (or_none (look env n)).size) (2 ^ 32)) (o == 0) e in
    (h.0, at_most _ _ h.1)

fits_step : (b x y : Bool) → b ≡ true → x ≡ true → (if b then x else y) ≡ true
fits_step true x y e f = f
fits_step false x y e f = cc

-- a complete type that ends within the largest object fits
pub fitting : (env : List Entry) (o : ℕ) (t : Ty) → is_complete_in env t ≡ true → o + (layout_in env t).size ≤ 2 ^ 32 → fits env o t ≡ true
fitting env o t complete small = fits_step (is_complete_in env t) _ _ complete (grind (arith, nat_tests))

-- an element ends where the next begins
element_end : (i n s o k : ℕ) → i < n → o + n * s ≤ k → o + i * s + s ≤ k
element_end i n s o k lt h = grind arith

pub element_ends : (n : Option ℕ) (s o i : ℕ) → HasRoom s o n → has_element n s i ≡ true → o + i * s + s ≤ 2 ^ 32
element_ends None s o i room e = let h = at_most ((i + 1) * s) (2 ^ 32) e in let z = room.1 in omega (arith, h, z)
element_ends (Some n) s o i room e = element_end i n s o (2 ^ 32) (above i n e) room.1

-- ---- while tables grow

rebuilt : (a b : Bool) → a ≡ true → b ≡ true → (a && b) ≡ true
rebuilt true b e f = f
rebuilt false b e f = cc

whole_fits : (old new : List Entry) (o : ℕ) (t : Ty) → ((u : Ty) → is_complete_in old u ≡ true → is_complete_in new u ≡ true) → ((u : Ty) → is_complete_in old u ≡ true → layout_in new u ≡ layout_in old u)
    → (if is_complete_in old t then nat_le (o + (layout_in old t).size) (2 ^ 32) else (is_complete_in old t && (o == 0))) ≡ true → fits new o t ≡ true
whole_fits old new o t c l e =
    let h = both (is_complete_in old t) (nat_le (o + (layout_in old t).size) (2 ^ 32)) (o == 0) e in
    let same = ap (λ (x : Layout). x.size) (l t h.0) in
    let lt = at_most _ _ h.1 in
    fitting new o t (c t h.0) (rw same lt)

pub grown_fits : (old new : List Entry) (o : ℕ) (t : Ty) → ((u : Ty) → is_complete_in old u ≡ true → is_complete_in new u ≡ true) → ((u : Ty) → is_complete_in old u ≡ true → layout_in new u ≡ layout_in old u)
    → fits old o t ≡ true → fits new o t ≡ true
grown_fits old new o (ConstOf t) c l e = whole_fits old new o (ConstOf t) c l e
grown_fits old new o (ArrayOf t None) c l e =
    let h = both_and (is_complete_in old t) (o == 0) e in
    rebuilt (is_complete_in new t) (o == 0) (c t h.0) h.1
grown_fits old new o (ArrayOf t (Some n)) c l e = whole_fits old new o (ArrayOf t (Some n)) c l e
grown_fits old new o VoidTy c l e = whole_fits old new o VoidTy c l e
grown_fits old new o (IntTy k) c l e = whole_fits old new o (IntTy k) c l e
grown_fits old new o (PointerTo t) c l e = whole_fits old new o (PointerTo t) c l e
grown_fits old new o (StructTag n) c l e = whole_fits old new o (StructTag n) c l e
grown_fits old new o (UnionTag n) c l e = whole_fits old new o (UnionTag n) c l e
grown_fits old new o (FunctionTy t ts v) c l e = whole_fits old new o (FunctionTy t ts v) c l e
