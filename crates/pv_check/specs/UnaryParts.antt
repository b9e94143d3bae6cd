-- A bridge: what functions answer that do a part of what Unary says.
use Rattle.pv_typed.specs.TypedTree.{TypedTree, type_of, Not, is_lvalue, Address, Indirection, Unary}
use Rattle.pv_check.specs.Sorts.{points_to_function, is_truth_kind}
use Rattle.pv_types.specs.Sorts.{kind_of, pointed_by, is_scalar, is_void}
use Rattle.pv_check.specs.Unary.{under_address}
use Rattle.pv_check.specs.Values.{source_node, conversion_to}
use Rattle.std.specs.Prelude.{ℕ, Option, Some, None, if◌then◌else◌, ◌||◌, ◌&&◌, Bool}
use Rattle.pv_types.specs.Ty.{IntTy, PointerTo, Ty, VoidTy}
use Rattle.pv_num.specs.declared.kinds.IntKind.TheVariants.{Int}
use Rattle.pv_num.specs.declared.operators.UnOp.{UnOp}
use Rattle.pv_num.specs.declared.kinds.IntKind.{IntKind}
use Rattle.pv_num.specs.Kinds.{promotion_of}
use Rattle.std.specs.Option.{option_map}

-- 6.5.3.2p4: an indirection by what is pointed to
abbrev pub indirection_to : ℕ → TypedTree → Option Ty → Option TypedTree
indirection_to line a t = option_map (λ t. source_node line (if is_void t then VoidTy else t) (Indirection a)) t

-- 6.5.3.2p2 and p4: of a pointer to void, a void expression; of a pointer to a function, a designator
-- worked: void_lvalue_rows (proofs/IncompleteExamples)
abbrev pub indirection_of : ℕ → TypedTree → Option TypedTree
indirection_of line a = indirection_to line a (pointed_by (type_of a))

-- 6.5.3.3p1 and p5: `!` of a scalar gives an `int`
abbrev pub not_of : ℕ → TypedTree → Option TypedTree
not_of line a = if is_scalar (type_of a) then Some (source_node line (IntTy Int) (Not a)) else None

-- 6.5.3.2p1 and p3: `&` of an lvalue or a function designator is a pointer to its type
-- worked: address_and_indirection_rows (proofs/Examples); address_operand_rows (proofs/OperandExamples); qualified_address_rows
--   (proofs/QualifierExamples)
abbrev pub address_of : ℕ → TypedTree → Option TypedTree
address_of line a = if is_lvalue a then Some (source_node line (PointerTo (type_of a)) (Address (under_address a))) else None

-- 6.5.4p2, 6.3.2.3p8, 6.3.1.2: a pointer to a function becomes another one or a truth value; what else becomes one is a null pointer constant
-- (6.3.2.3p3). C17 leaves casts between such pointers and integers to the implementation (6.3.2.3p5, p6): we have none; 6.2.5p6: the type
-- `_Bool`
abbrev pub may_recast : Ty → Ty → (null : Bool) → Bool
may_recast t u null =
    if points_to_function u then points_to_function t || is_truth_kind (kind_of t)
    else (if points_to_function t then null else is_scalar t && is_scalar u)

-- 6.5.3.3p2 to p4: the same as sign_of, by the kind of the operand
abbrev pub arithmetic_at : ℕ → UnOp → TypedTree → Option IntKind → Option TypedTree
arithmetic_at line op a k = option_map (λ k. source_node line (IntTy (promotion_of k)) (Unary op (conversion_to (IntTy (promotion_of k)) a))) k
