-- A bridge: what functions answer that do a part of what ValueRules says.
use Rattle.std.specs.Prelude.{Option, Bool}
use Rattle.pv_unit.specs.Initializers.{Given, initialized_object}
use Rattle.pv_unit.specs.Rules.{After}
use Rattle.pv_unit.specs.ValueRules.{values}
use Rattle.pv_tree.specs.Syntax.{InitializerTree}
use Rattle.pv_check.specs.State.{State}
use Rattle.pv_types.specs.Ty.{Ty}

-- 6.7.9: what an object of this type gets by its initializer
abbrev pub object_stores : (lasting : Bool) → Ty → InitializerTree → State → Option (After State Given)
object_stores lasting t i s = initialized_object values lasting t i s
