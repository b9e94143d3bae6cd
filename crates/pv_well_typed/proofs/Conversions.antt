-- What may be assigned (C17 6.5.16.1), and null pointer constants (6.3.2.3p3).
use Rattle.std.proofs.Common.{◌≡◌, ℕ, Bool, true, false, Some, None, List, refl, sym, subst, ◌∙◌}
use Rattle.std.specs.Prelude.{if◌then◌else◌}
use Rattle.pv_num.specs.declared.kinds.IntKind.{IntKind}
use Rattle.pv_num.specs.declared.kinds.IntKind.TheVariants.{Bool as BoolKind}
use Rattle.pv_types.specs.Ty.{Ty, VoidTy, IntTy, PointerTo, ArrayOf, StructTag, UnionTag, FunctionTy, ConstOf}
use Rattle.pv_typed.specs.Addresses.{is_null_constant}
use Rattle.pv_typed.specs.TypedTree.{TypedTree, Node, Form, type_of}
use Rattle.pv_typed.specs.TypedUnits.{WholeUnit}
use Rattle.pv_types.specs.Sorts.{bare_type}
use Rattle.pv_types.specs.SameTypes.{same_type as same}
use Rattle.pv_check.specs.Values.{conversion_to, may_assign, as_if_assigned}
use Rattle.pv_check.proofs.Same.{same_equal, same_itself}
use Rattle.pv_guards.specs.Typed.{IsValueType, IsScalarType, MayConvert}
use Rattle.pv_well_typed.specs.Proper.{IsValueOrVoid}
use Rattle.pv_well_typed.proofs.Operands.{IsOperand, IsConverted, converted-row, as-made}

-- 6.3.2.3p3: a null pointer constant is an integer or a pointer
null-node : (t : Ty) (line : ℕ) (turn : Bool) (x : Form) → IsValueOrVoid t → is_null_constant (Node t line turn x) ≡ true → IsScalarType t
null-node VoidTy line turn x p e = absurd cc
null-node (IntTy k) line turn x p e = tt
null-node (PointerTo t) line turn x p e = tt
null-node (ArrayOf t n) line turn x p e = absurd p
null-node (StructTag n) line turn x p e = absurd cc
null-node (UnionTag n) line turn x p e = absurd cc
null-node (FunctionTy t ts c) line turn x p e = absurd p
null-node (ConstOf t) line turn x p e = absurd p

pub null-scalar : (a : TypedTree) → IsValueOrVoid (type_of a) → is_null_constant a ≡ true → IsScalarType (type_of a)
null-scalar (Node t line turn x) p e = null-node t line turn x p e

-- one type in the one order, and not in the other
pub one-type : (t u : Ty) → same t u ≡ true → same u t ≡ false → ⊥
one-type t u e n =
    let here : same u u ≡ false = subst (λ x. same u x ≡ false) (same_equal t u e) n in
    let both : true ≡ false = sym (same_itself u) ∙ here in
    absurd cc

-- 6.5.16.1p1: what may be assigned may be converted to a type that a value has
abbrev Assigns : (to from : Ty) → Type 0
Assigns t u = (same u t ≡ false → MayConvert u t) × IsValueType t

to-integer : (k : IntKind) (u : Ty) (null : Bool) → may_assign (IntTy k) u null ≡ true → Assigns (IntTy k) u
to-integer k (IntTy l) null e = (λ n. tt, tt)
to-integer BoolKind (PointerTo u) null e = (λ n. refl, tt)
to-integer _ _ null e = absurd cc

to-pointer : (t u : Ty) (null : Bool) → (null ≡ true → IsScalarType u) → may_assign (PointerTo t) u null ≡ true → Assigns (PointerTo t) u
to-pointer t (PointerTo u) null scalar e = (λ n. tt, tt)
to-pointer t (IntTy l) null scalar e = (λ n. tt, tt)
to-pointer t VoidTy null scalar e = absurd (scalar e)
to-pointer t (ArrayOf u n) null scalar e = absurd (scalar e)
to-pointer t (StructTag n) null scalar e = absurd (scalar e)
to-pointer t (UnionTag n) null scalar e = absurd (scalar e)
to-pointer t (FunctionTy u us c) null scalar e = absurd (scalar e)
to-pointer t (ConstOf u) null scalar e = absurd (scalar e)

pub may-assigned : (t u : Ty) (null : Bool) → (null ≡ true → IsScalarType u) → may_assign t u null ≡ true → Assigns t u
may-assigned VoidTy u null scalar e = absurd cc
may-assigned (IntTy k) u null scalar e = to-integer k u null e
may-assigned (PointerTo t) u null scalar e = to-pointer t u null scalar e
may-assigned (ArrayOf t n) u null scalar e = absurd cc
may-assigned (StructTag n) u null scalar e = (λ m. absurd (one-type (StructTag n) u e m), tt)
may-assigned (UnionTag n) u null scalar e = (λ m. absurd (one-type (UnionTag n) u e m), tt)
may-assigned (FunctionTy t ts c) u null scalar e = absurd cc
may-assigned (ConstOf t) u null scalar e = absurd cc

-- 6.5.16.1p2: a value as it is assigned to a type, whose bare version it has then
pub record IsAssigned (E : Type 0) (v : WholeUnit) (os : List ℕ) (t : Ty) (a : TypedTree) : Type 0 where
  pub converted : IsConverted E v os (bare_type t) a
  pub value : IsValueType (bare_type t)

pub assigned-row : (E : Type 0) (v : WholeUnit) (os : List ℕ) (t : Ty) (a : TypedTree) → IsOperand E v os a → (x : TypedTree) → as_if_assigned t a ≡ Some x → IsAssigned E v os t x
assigned-row E v os t a h x e = by (may_assign (bare_type t) (type_of a) (is_null_constant a)) refl e
  where
    by : (b : Bool) → may_assign (bare_type t) (type_of a) (is_null_constant a) ≡ b → (if b then Some (conversion_to (bare_type t) a) else None) ≡ Some x → IsAssigned E v os t x
    by true p e =
        let may = may-assigned (bare_type t) (type_of a) (is_null_constant a) (null-scalar a h.plain) p in
        as-made (IsAssigned E v os t) (conversion_to (bare_type t) a) x (record { converted = converted-row E v os (bare_type t) a h may.0; value = may.1 }) e
    by false p e = absurd cc
