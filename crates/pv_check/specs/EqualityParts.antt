-- A bridge: what functions answer that do a part of what Equality says.
use Rattle.std.specs.Prelude.{Bool, Option, ℕ, None, if◌then◌else◌, Some}
use Rattle.pv_typed.specs.TypedTree.{TypedTree, type_of}
use Rattle.pv_num.specs.declared.operators.BinOp.{BinOp}
use Rattle.pv_check.specs.Equality.{equal_at, left_converted, right_converted, equality}
use Rattle.pv_check.specs.Sorts.{is_void_beside, are_alike}
use Rattle.pv_types.specs.Sorts.{pointed_by}
use Rattle.pv_types.specs.Ty.{Ty}

-- 6.5.9p2: an equality by the types of its operands, each a null pointer constant or not
abbrev pub equal_with : (left right : Bool) → ℕ → BinOp → TypedTree → TypedTree → Option TypedTree
equal_with left right line op a b = equal_at line op a b (pointed_by (type_of a)) (pointed_by (type_of b)) left right

-- 6.5.9p2: pointers to compatible types, qualifiers aside; 6.5.9p5: where one points to void, the other, which points to no function, is
-- converted
abbrev pub equal_pointers : ℕ → BinOp → TypedTree → TypedTree → Ty → Ty → Option TypedTree
equal_pointers line op a b t u =
    if are_alike t u then Some (equality line op a b)
    else (if is_void_beside t u then Some (right_converted line op a b)
    else (if is_void_beside u t then Some (left_converted line op a b) else None))
