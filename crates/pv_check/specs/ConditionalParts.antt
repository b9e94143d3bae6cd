-- A bridge: what functions answer that do a part of what Conditional says.
use Rattle.pv_types.specs.Ty.{Ty, PointerTo, VoidTy}
use Rattle.pv_types.specs.Qualifiers.{is_const}
use Rattle.pv_typed.specs.TypedTree.{type_of, TypedTree, Conditional}
use Rattle.pv_typed.specs.Addresses.{is_null_constant}
use Rattle.std.specs.Prelude.{Option, Bool, ℕ, None, Some, ◌||◌, if◌then◌else◌}
use Rattle.pv_check.specs.Conditional.{result_type}
use Rattle.pv_check.specs.Qualified.{qualified_if}
use Rattle.pv_types.specs.Sorts.{bare_type}
use Rattle.pv_check.specs.Values.{conversion_to, source_node}
use Rattle.pv_check.specs.Sorts.{are_alike, has_void}
use Rattle.pv_check.specs.Composite.{composite_of}
use Rattle.pv_check.specs.State.{◌>>=◌}

-- 6.5.15p3, p5 and p6: the type of the result, by the second and the third operand
abbrev pub type_of_chosen : TypedTree → TypedTree → Option Ty
type_of_chosen b c = result_type (type_of b) (type_of c) (is_null_constant b) (is_null_constant c)

-- 6.5.15p6: a pointer to a type, with `const` where one operand's has it
abbrev pub pointer_to : (const : Bool) → Ty → Ty
pointer_to const t = PointerTo (qualified_if const t)

-- 6.5.15p5 and p6: the node, where there is a type of the result, to which both operands are converted
abbrev pub chosen_node : ℕ → TypedTree → TypedTree → TypedTree → Option Ty → Option TypedTree
chosen_node line a b c t = do t ← t; Some (source_node line t (Conditional a (conversion_to t b) (conversion_to t c)))

-- 6.5.15p6: what two pointers that are no null pointer constants give: a pointer to the composite type, or to void where one points to void and the
-- other to no function, with the qualifiers of both
-- worked: composite_of_pointers_rows (proofs/ConditionalExamples)
abbrev pub pointer_of_both : Ty → Ty → Option Ty
pointer_of_both t u =
    if are_alike t u then Some (PointerTo (qualified_if (is_const t || is_const u) (composite_of (bare_type t) (bare_type u))))
    else (if has_void t u then Some (PointerTo (qualified_if (is_const t || is_const u) VoidTy)) else None)
