-- Types as declarations make them: what follows of their values and their sizes (C17 6.2.5, 6.3.2.1).
use Rattle.std.proofs.Common.{◌≡◌, ℕ, ◌≤◌, ◌*◌, ◌/◌, Bool, true, false, Option, Some, None, List, refl, sym, ap, subst, ◌∙◌, arith, is_some}
use Rattle.std.specs.Prelude.{◌^◌, if◌then◌else◌}
use Rattle.pv_num.specs.declared.kinds.IntKind.{IntKind}
use Rattle.pv_num.specs.declared.kinds.IntKind.TheVariants.{Bool as BoolKind}
use Rattle.pv_num.specs.Kinds.{width}
use Rattle.pv_types.specs.Ty.{Ty, VoidTy, IntTy, PointerTo, ArrayOf, StructTag, UnionTag, FunctionTy, ConstOf}
use Rattle.pv_types.specs.Layouts.{Entry, layout_in, is_complete_in}
use Rattle.pv_types.proofs.LayoutLaws.{layout-append, complete-append}
use Rattle.pv_types.proofs.Fills.{layout_fills}
use Rattle.pv_types.specs.Sorts.{bare_type, kind_of, pointed_by, is_scalar, is_void}
use Rattle.pv_typed.specs.TypedUnits.{WholeUnit, layouts}
use Rattle.pv_check.specs.Qualified.{const_version, qualified_if}
use Rattle.pv_check.proofs.Growth.{complete_qualified, size_qualified}
use Rattle.pv_check.specs.Sorts.{complete_pointed_by, is_array}
use Rattle.pv_check.specs.SortParts.{complete_by}
use Rattle.pv_typed.specs.TypedTree.{is_function}
use Rattle.pv_guards.specs.Typed.{IsSized, IsValueType, IsScalarType, IsIntegerType}
use Rattle.pv_well_typed.specs.Proper.{IsValueOrVoid, IsSmallArray, IsProper}
use Rattle.pv_well_typed.specs.Later.{IsFinished, Extends}

pub proper-bare : (v : WholeUnit) (t : Ty) → IsProper v t → IsProper v (bare_type t)
proper-bare v VoidTy h = tt
proper-bare v (IntTy k) h = tt
proper-bare v (PointerTo t) h = h
proper-bare v (ArrayOf t n) h = h
proper-bare v (StructTag n) h = h
proper-bare v (UnionTag n) h = h
proper-bare v (FunctionTy t ts c) h = h
proper-bare v (ConstOf t) h = proper-bare v t h.1

-- a type that stands without qualifiers
pub plain-bare : (t : Ty) → IsValueOrVoid t → bare_type t ≡ t
plain-bare VoidTy h = refl
plain-bare (IntTy k) h = refl
plain-bare (PointerTo t) h = refl
plain-bare (ArrayOf t n) h = absurd h
plain-bare (StructTag n) h = refl
plain-bare (UnionTag n) h = refl
plain-bare (FunctionTy t ts c) h = absurd h
plain-bare (ConstOf t) h = absurd h

-- what a value's type is, it is one of these
pub value-or-void : (t : Ty) → IsValueType t → IsValueOrVoid t
value-or-void VoidTy h = tt
value-or-void (IntTy k) h = tt
value-or-void (PointerTo t) h = tt
value-or-void (ArrayOf t n) h = absurd h
value-or-void (StructTag n) h = tt
value-or-void (UnionTag n) h = tt
value-or-void (FunctionTy t ts c) h = absurd h
value-or-void (ConstOf t) h = absurd h

-- a type around which a `const` stands, and which is complete
pub complete-value : (es : List Entry) (t : Ty) → IsValueOrVoid t → is_complete_in es t ≡ true → IsValueType t
complete-value es VoidTy p h = absurd cc
complete-value es (IntTy k) p h = tt
complete-value es (PointerTo t) p h = tt
complete-value es (ArrayOf t n) p h = absurd p
complete-value es (StructTag n) p h = tt
complete-value es (UnionTag n) p h = tt
complete-value es (FunctionTy t ts c) p h = absurd p
complete-value es (ConstOf t) p h = absurd p

-- 6.3.2.1p2: what is held by an object of a complete type that is no array
pub held-value : (v : WholeUnit) (es : List Entry) (t : Ty) → IsProper v t → is_complete_in es t ≡ true → is_array t ≡ false → IsValueType (bare_type t)
held-value v es VoidTy p h a = absurd cc
held-value v es (IntTy k) p h a = tt
held-value v es (PointerTo t) p h a = tt
held-value v es (ArrayOf t n) p h a = absurd cc
held-value v es (StructTag n) p h a = tt
held-value v es (UnionTag n) p h a = tt
held-value v es (FunctionTy t ts c) p h a = absurd cc
held-value v es (ConstOf t) p h a = subst IsValueType (sym (plain-bare t p.0)) (complete-value es t p.0 h)

-- without qualifiers, a type that is neither an array nor a function
pub plain-value : (v : WholeUnit) (t : Ty) → IsProper v t → is_array t ≡ false → is_function t ≡ false → IsValueOrVoid (bare_type t)
plain-value v VoidTy p a f = tt
plain-value v (IntTy k) p a f = tt
plain-value v (PointerTo t) p a f = tt
plain-value v (ArrayOf t n) p a f = absurd cc
plain-value v (StructTag n) p a f = tt
plain-value v (UnionTag n) p a f = tt
plain-value v (FunctionTy t ts c) p a f = absurd cc
plain-value v (ConstOf t) p a f = subst IsValueOrVoid (sym (plain-bare t p.0)) p.0

-- ---- sizes

pub complete-later : (es : List Entry) (v : WholeUnit) → Extends es v → (t : Ty) → is_complete_in es t ≡ true → is_complete_in (layouts v) t ≡ true
complete-later es v m t e = ap (λ fs. is_complete_in fs t) m.1 ∙ complete-append es m.0 t e ∙ e

pub layout-later : (es : List Entry) (v : WholeUnit) → Extends es v → (t : Ty) → is_complete_in es t ≡ true → layout_in (layouts v) t ≡ layout_in es t
layout-later es v m t e = ap (λ fs. layout_in fs t) m.1 ∙ layout-append es m.0 t e

kind-small : (k : IntKind) → width k / 8 ≤ 2 ^ 32
kind-small BoolKind = omega arith
kind-small _ = omega arith

-- 5.2.4.1p1: a type has at most 2 ^ 32 bytes
pub small : (v : WholeUnit) → IsFinished v → (t : Ty) → IsProper v t → is_complete_in (layouts v) t ≡ true → (layout_in (layouts v) t).size ≤ 2 ^ 32
small v done VoidTy p h = absurd cc
small v done (IntTy k) p h = kind-small k
small v done (PointerTo t) p h = omega arith
small v done (ArrayOf t None) p h = absurd cc
small v done (ArrayOf t (Some n)) p h = p.2
small v done (StructTag n) p h = done.small n
small v done (UnionTag n) p h = done.small n
small v done (FunctionTy t ts c) p h = absurd cc
small v done (ConstOf t) p h = small v done t p.1 h

pub sized : (v : WholeUnit) → IsFinished v → (t : Ty) → IsProper v t → is_complete_in (layouts v) t ≡ true → IsSized (layouts v) t
sized v done t p h =
    let some = (layout_fills (layouts v) t done.filled h).0 in
    record { complete = h; some = omega (arith, some); small = small v done t p h }

pub sized-later : (v : WholeUnit) → IsFinished v → (es : List Entry) → Extends es v → (t : Ty) → IsProper v t → is_complete_in es t ≡ true → IsSized (layouts v) t
sized-later v done es m t p h = sized v done t p (complete-later es v m t h)

-- ---- what a type without qualifiers is, by its tests

pub kind-type : (t : Ty) (k : IntKind) → IsValueOrVoid t → kind_of t ≡ Some k → t ≡ IntTy k
kind-type VoidTy k p e = absurd cc
kind-type (IntTy j) k p e = cc
kind-type (PointerTo t) k p e = absurd cc
kind-type (ArrayOf t n) k p e = absurd p
kind-type (StructTag n) k p e = absurd cc
kind-type (UnionTag n) k p e = absurd cc
kind-type (FunctionTy t ts c) k p e = absurd p
kind-type (ConstOf t) k p e = absurd p

pub integer-type : (t : Ty) → IsValueOrVoid t → is_some (kind_of t) ≡ true → IsIntegerType t
integer-type VoidTy p e = absurd cc
integer-type (IntTy j) p e = tt
integer-type (PointerTo t) p e = absurd cc
integer-type (ArrayOf t n) p e = absurd p
integer-type (StructTag n) p e = absurd cc
integer-type (UnionTag n) p e = absurd cc
integer-type (FunctionTy t ts c) p e = absurd p
integer-type (ConstOf t) p e = absurd p

pub pointed-type : (t e : Ty) → IsValueOrVoid t → pointed_by t ≡ Some e → t ≡ PointerTo e
pointed-type VoidTy e p h = absurd cc
pointed-type (IntTy j) e p h = absurd cc
pointed-type (PointerTo t) e p h = cc
pointed-type (ArrayOf t n) e p h = absurd p
pointed-type (StructTag n) e p h = absurd cc
pointed-type (UnionTag n) e p h = absurd cc
pointed-type (FunctionTy t ts c) e p h = absurd p
pointed-type (ConstOf t) e p h = absurd p

pub scalar-type : (t : Ty) → IsValueOrVoid t → is_scalar t ≡ true → IsScalarType t
scalar-type VoidTy p e = absurd cc
scalar-type (IntTy j) p e = tt
scalar-type (PointerTo t) p e = tt
scalar-type (ArrayOf t n) p e = absurd p
scalar-type (StructTag n) p e = absurd cc
scalar-type (UnionTag n) p e = absurd cc
scalar-type (FunctionTy t ts c) p e = absurd p
scalar-type (ConstOf t) p e = absurd p

pub not-void : (t : Ty) → IsValueOrVoid t → is_void t ≡ false → IsValueType t
not-void VoidTy p e = absurd cc
not-void (IntTy j) p e = tt
not-void (PointerTo t) p e = tt
not-void (ArrayOf t n) p e = absurd p
not-void (StructTag n) p e = tt
not-void (UnionTag n) p e = tt
not-void (FunctionTy t ts c) p e = absurd p
not-void (ConstOf t) p e = absurd p

-- 6.5.6p2: a pointer to a complete object type
pub record ToComplete (v : WholeUnit) (t e : Ty) : Type 0 where
  pub is : t ≡ PointerTo e
  pub sized : IsSized (layouts v) e
  pub proper : IsProper v e

pub some-complete : (es : List Entry) (o : Option Ty) (e : Ty) → complete_by es o ≡ Some e → (o ≡ Some e) × (is_complete_in es e ≡ true)
some-complete es None e h = absurd cc
some-complete es (Some t) e h = by (is_complete_in es t) refl h
  where
    by : (b : Bool) → is_complete_in es t ≡ b → (if b then Some t else None) ≡ Some e → (Some t ≡ Some e) × (is_complete_in es e ≡ true)
    by true c h = let q : t ≡ e = cc in (h, subst (λ x. is_complete_in es x ≡ true) q c)
    by false c h = absurd cc

pub to-complete : (v : WholeUnit) → IsFinished v → (es : List Entry) → Extends es v → (t e : Ty) → IsValueOrVoid t → IsProper v t → complete_pointed_by es t ≡ Some e → ToComplete v t e
to-complete v done es m t e p q h =
    let found = some-complete es (pointed_by t) e h in
    let is = pointed-type t e p found.0 in
    let proper : IsProper v e = subst (IsProper v) is q in
    record { is = is; sized = sized-later v done es m e proper found.1; proper = proper }

-- ---- `const`

pub no-function : (es : List Entry) (t : Ty) → is_complete_in es t ≡ true → is_function t ≡ false
no-function es VoidTy h = refl
no-function es (IntTy k) h = refl
no-function es (PointerTo t) h = refl
no-function es (ArrayOf t n) h = refl
no-function es (StructTag n) h = refl
no-function es (UnionTag n) h = refl
no-function es (FunctionTy t ts c) h = absurd cc
no-function es (ConstOf t) h = refl

small-qualified : (v : WholeUnit) (t : Ty) (n : Option ℕ) → IsSmallArray v t n → IsSmallArray v (const_version t) n
small-qualified v t None h = tt
small-qualified v t (Some n) h = subst (λ s. n * s ≤ 2 ^ 32) (sym (size_qualified (layouts v) t)) h

-- 6.7.3p9: `const` around a type, where it may stand
pub proper-qualified : (v : WholeUnit) (t : Ty) → IsProper v t → is_function t ≡ false → IsProper v (const_version t)
proper-qualified v VoidTy h f = (tt, tt)
proper-qualified v (IntTy k) h f = (tt, tt)
proper-qualified v (PointerTo t) h f = (tt, h)
proper-qualified v (ArrayOf t n) h f =
    (proper-qualified v t h.0 (no-function (layouts v) t h.1), complete_qualified (layouts v) t ∙ h.1, small-qualified v t n h.2)
proper-qualified v (StructTag n) h f = (tt, h)
proper-qualified v (UnionTag n) h f = (tt, h)
proper-qualified v (FunctionTy t ts c) h f = absurd cc
proper-qualified v (ConstOf t) h f = h

pub proper-qualified-if : (v : WholeUnit) (b : Bool) (t : Ty) → IsProper v t → is_function t ≡ false → IsProper v (qualified_if b t)
proper-qualified-if v true t h f = proper-qualified v t h f
proper-qualified-if v false t h f = h
