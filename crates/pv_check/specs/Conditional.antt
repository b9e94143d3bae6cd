-- The conditional operator (6.5.15).
use Rattle.std.specs.Prelude.{ℕ, Bool, true, false, ◌||◌, if◌then◌else◌, Option, Some, None}
use Rattle.pv_types.specs.Ty.{Ty, VoidTy, IntTy, PointerTo, StructTag, UnionTag}
use Rattle.pv_typed.specs.TypedTree.{TypedTree, Conditional, type_of}
use Rattle.pv_check.specs.Kinds.{common_kind}
use Rattle.pv_check.specs.Qualified.{qualified_if}
use Rattle.pv_types.specs.SameTypes.{same_type}
use Rattle.pv_types.specs.Qualifiers.{is_const}
use Rattle.pv_check.specs.Sorts.{are_alike, has_void}
use Rattle.pv_types.specs.Sorts.{is_scalar, bare_type}
use Rattle.pv_check.specs.Composite.{composite_of}
use Rattle.pv_typed.specs.Addresses.{is_null_constant}
use Rattle.pv_check.specs.Values.{source_node, conversion_to}
use Rattle.pv_check.specs.State.{◌>>=◌, ◌>>◌, must}

-- 6.5.15p6: with a null pointer constant, the type of the other operand; two of pointer type are two pointers, and give a pointer to the composite
-- type, or to void where one points to void and the other to no function, with the qualifiers of both
-- worked: composite_of_pointers_rows, chosen_pointer_rows, chosen_void_pointer_rows, chosen_null_pointer_rows (proofs/ConditionalExamples)
abbrev pub pointer_type : Ty → Ty → (left right : Bool) → Option Ty
pointer_type t u false true = Some (PointerTo t)
pointer_type t u true false = Some (PointerTo u)
pointer_type t u left right =
    if are_alike t u then Some (PointerTo (qualified_if (is_const t || is_const u) (composite_of (bare_type t) (bare_type u))))
    else (if has_void t u then Some (PointerTo (qualified_if (is_const t || is_const u) VoidTy)) else None)

-- 6.5.15p3 and p5: what two that are no pointers give: two integers, two of type void, two of one structure or union
-- worked: chosen_structure_rows (proofs/ConditionalExamples)
abbrev pub plain_type : Ty → Ty → Option Ty
plain_type (IntTy k) (IntTy l) = Some (IntTy (common_kind k l))
plain_type VoidTy VoidTy = Some VoidTy
plain_type (StructTag n) u = if same_type (StructTag n) u then Some u else None
plain_type (UnionTag n) u = if same_type (UnionTag n) u then Some u else None
plain_type t u = None

-- 6.5.15p3, p5 and p6: the type of the result, by the types of the second and the third operand, and whether they are null pointer
-- constants
abbrev pub result_type : Ty → Ty → (left right : Bool) → Option Ty
result_type (PointerTo t) (PointerTo u) left right = pointer_type t u left right
result_type (PointerTo t) u left true = Some (PointerTo t)
result_type t (PointerTo u) true right = Some (PointerTo u)
result_type t u left right = plain_type t u

-- 6.5.15p2 and p3: the first operand is a scalar, and the second and the third give a type of the result, to which both are converted (6.5.15p5 and
-- p6)
-- worked: conditional_rows (proofs/FurtherExamples); chosen_integer_rows (proofs/ConditionalExamples)
abbrev pub conditional_of : ℕ → TypedTree → TypedTree → TypedTree → Option TypedTree
conditional_of line a b c = do
  must (is_scalar (type_of a))
  t ← result_type (type_of b) (type_of c) (is_null_constant b) (is_null_constant c)
  Some (source_node line t (Conditional a (conversion_to t b) (conversion_to t c)))
