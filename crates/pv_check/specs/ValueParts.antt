-- A bridge: what functions answer that do a part of what Values says.
use Rattle.pv_types.specs.Ty.{Ty}
use Rattle.std.specs.Prelude.{Bool, Some, if◌then◌else◌, Option, None}
use Rattle.pv_check.specs.Values.{conversion_to, may_assign}
use Rattle.pv_types.specs.Sorts.{bare_type}
use Rattle.pv_typed.specs.TypedTree.{TypedTree, type_of}

-- 6.5.16.1p2: a value as if by assignment, which is a null pointer constant or not (6.3.2.3p3)
abbrev pub assigned_with : (null : Bool) → Ty → TypedTree → Option TypedTree
assigned_with null t a = if may_assign (bare_type t) (type_of a) null then Some (conversion_to (bare_type t) a) else None
