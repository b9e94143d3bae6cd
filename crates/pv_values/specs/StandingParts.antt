-- A bridge: the objects that are wanted.
use Rattle.std.specs.Prelude.{ℕ, Bool, ◌||◌, ◌==◌, List, [], if◌then◌else◌}
use Rattle.pv_typed.specs.TypedUnits.{WholeUnit}
use Rattle.pv_world.specs.Worlds.{World}
use Rattle.pv_values.specs.Standing.{objects_text, statics_text}

-- 6.2.4p6: the objects of body number k, where it is the innermost, or all are wanted
abbrev pub wanted_text : WholeUnit → World → (all : Bool) → (k : ℕ) → List ℕ
wanted_text u w all k = if all || k == 0 then objects_text u w k else []

-- 6.2.4p3: the objects with static storage, where all are wanted
abbrev pub lasting_text : WholeUnit → World → (all : Bool) → List ℕ
lasting_text u w all = if all then statics_text u w else []
