-- A bridge: what functions answer that do a part of what Sorts says.
use Rattle.pv_check.specs.Sorts.{is_truth_kind}
use Rattle.pv_types.specs.Sorts.{kind_of}
use Rattle.std.specs.Prelude.{Bool, false, None, Option, Some, List, if◌then◌else◌}
use Rattle.pv_types.specs.Ty.{Ty}
use Rattle.pv_types.specs.Layouts.{is_complete_in, Entry}
use Rattle.pv_typed.specs.TypedTree.{is_function}
use Rattle.std.specs.Option.{option_map_or, option_and_then}

-- 6.2.5p6: the type `_Bool`
abbrev pub is_truth : Ty → Bool
is_truth t = is_truth_kind (kind_of t)

-- 6.2.5p20: what is perhaps pointed to is a function type
abbrev pub is_function_if : Option Ty → Bool
is_function_if t = option_map_or is_function t false

-- 6.5.6p2: the complete object type that is pointed to, by what is pointed to
abbrev pub complete_by : List Entry → Option Ty → Option Ty
complete_by env t = option_and_then (λ t. if is_complete_in env t then Some t else None) t
