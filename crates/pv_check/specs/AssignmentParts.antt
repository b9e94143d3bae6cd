-- A bridge: what functions answer that do a part of what Assignment says.
use Rattle.pv_typed.specs.TypedTree.{type_of, TypedTree, Assign, PointerAssign}
use Rattle.pv_typed.specs.declared.nodes.Sign.{Sign}
use Rattle.pv_check.specs.Assignment.{compound_at}
use Rattle.pv_check.specs.Values.{as_if_assigned, source_node}
use Rattle.pv_check.specs.Sorts.{complete_pointed_by}
use Rattle.pv_types.specs.Sorts.{kind_of, bare_type}
use Rattle.pv_check.specs.Kinds.{common_kind}
use Rattle.std.specs.Prelude.{ℕ, Option, List, Some}
use Rattle.pv_types.specs.Layouts.{Entry}
use Rattle.pv_types.specs.Ty.{Ty}
use Rattle.pv_num.specs.declared.operators.BinOp.{BinOp}
use Rattle.pv_num.specs.declared.kinds.IntKind.{IntKind}
use Rattle.pv_num.specs.Kinds.{promotion_of}
use Rattle.std.specs.Option.{option_map}
use Rattle.pv_check.specs.State.{◌>>=◌}

-- 6.5.16p3: an assignment has the bare type of its left operand
abbrev pub assigned_to : ℕ → TypedTree → Option TypedTree → Option TypedTree
assigned_to line a b = option_map (λ b. source_node line (bare_type (type_of a)) (Assign a b)) b

-- 6.5.16.1p1 and p2: simple assignment: the right operand is converted to the type of the left one
-- worked: simple_assignment_rows (proofs/FurtherExamples); assignment_operand_rows (proofs/OperatorExamples)
abbrev pub simple_of : ℕ → TypedTree → TypedTree → Option TypedTree
simple_of line a b = assigned_to line a (as_if_assigned (type_of a) b)

-- 6.5.16.2p3: `+=` or `-=` of a pointer, by what the left operand points to and the kind of the right one
abbrev pub step_to : ℕ → Sign → TypedTree → TypedTree → Option Ty → Option IntKind → Option TypedTree
step_to line sign a b t k = do _ ← t; _ ← k; Some (source_node line (bare_type (type_of a)) (PointerAssign sign a b))

-- 6.5.16.2p1: a pointer to a complete object type, and an integer
abbrev pub pointer_assign : List Entry → ℕ → Sign → TypedTree → TypedTree → Option TypedTree
pointer_assign env line sign a b = step_to line sign a b (complete_pointed_by env (type_of a)) (kind_of (type_of b))

-- 6.5.16.2p3: an arithmetic compound assignment, by the kinds of the operands, which are converted to their common type
abbrev pub arithmetic_kinds : ℕ → BinOp → TypedTree → TypedTree → Option IntKind → Option IntKind → Option TypedTree
arithmetic_kinds line op a b k l = do k ← k; l ← l; compound_at line op a b (common_kind k l) (common_kind k l)

-- 6.5.16.2p2, 6.5.7p3: `<<=` and `>>=` by the kinds of the operands: each is promoted by itself
abbrev pub shift_kinds : ℕ → BinOp → TypedTree → TypedTree → Option IntKind → Option IntKind → Option TypedTree
shift_kinds line op a b k l = do k ← k; l ← l; compound_at line op a b (promotion_of k) (promotion_of l)
