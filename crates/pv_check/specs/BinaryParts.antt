-- A bridge: what functions answer that do a part of what Binary says.
use Rattle.std.specs.Prelude.{Option, ℕ, Some, if◌then◌else◌, None, ◌&&◌, not}
use Rattle.pv_typed.specs.TypedTree.{TypedTree, type_of, LogicalAnd, LogicalOr, Arithmetic, PointerOrder, is_function}
use Rattle.pv_check.specs.Sorts.{are_alike}
use Rattle.pv_types.specs.Sorts.{pointed_by}
use Rattle.pv_check.specs.Binary.{are_scalar}
use Rattle.pv_check.specs.Values.{source_node, conversion_to}
use Rattle.pv_check.specs.Kinds.{common_kind}
use Rattle.pv_num.specs.declared.operators.BinOp.{BinOp}
use Rattle.pv_num.specs.declared.kinds.IntKind.TheVariants.{Int}
use Rattle.pv_num.specs.Arithmetic.{yielded_kind}
use Rattle.pv_num.specs.declared.kinds.IntKind.{IntKind}
use Rattle.pv_num.specs.Kinds.{promotion_of}
use Rattle.pv_types.specs.Ty.{IntTy, Ty}
use Rattle.pv_check.specs.State.{◌>>=◌}

-- an order of pointers by what they point to: the result is an `int` (6.5.8p6)
abbrev pub order_at : ℕ → BinOp → TypedTree → TypedTree → Option Ty → Option Ty → Option TypedTree
order_at line op a b t u = do
  t ← t
  u ← u
  if not (is_function t) && are_alike t u then Some (source_node line (IntTy Int) (PointerOrder op a b)) else None

-- 6.5.8p2: two pointers to compatible object types, qualifiers aside
abbrev pub pointer_order_of : ℕ → BinOp → TypedTree → TypedTree → Option TypedTree
pointer_order_of line op a b = order_at line op a b (pointed_by (type_of a)) (pointed_by (type_of b))

-- 6.5.13p2 and p3: `&&` of two scalars gives an `int`
abbrev pub and_of : ℕ → TypedTree → TypedTree → Option TypedTree
and_of line a b = if are_scalar a b then Some (source_node line (IntTy Int) (LogicalAnd a b)) else None

-- 6.5.14p2 and p3: `||` of two scalars gives an `int`
abbrev pub or_of : ℕ → TypedTree → TypedTree → Option TypedTree
or_of line a b = if are_scalar a b then Some (source_node line (IntTy Int) (LogicalOr a b)) else None

-- the same as arithmetic_of, by the kinds of the operands: a comparison gives `int` (6.5.8p6, 6.5.9p3)
abbrev pub arithmetic_at : ℕ → BinOp → TypedTree → TypedTree → Option IntKind → Option IntKind → Option TypedTree
arithmetic_at line op a b k l = do
  k ← k
  l ← l
  Some (source_node line (IntTy (yielded_kind op (common_kind k l))) (Arithmetic op (conversion_to (IntTy (common_kind k l)) a) (conversion_to (IntTy (common_kind k l)) b)))

-- a shift by the kinds of its operands: the type is that of the promoted left one (6.5.7p3)
abbrev pub shift_at : ℕ → BinOp → TypedTree → TypedTree → Option IntKind → Option IntKind → Option TypedTree
shift_at line op a b k l = do
  k ← k
  l ← l
  Some (source_node line (IntTy (promotion_of k)) (Arithmetic op (conversion_to (IntTy (promotion_of k)) a) (conversion_to (IntTy (promotion_of l)) b)))
