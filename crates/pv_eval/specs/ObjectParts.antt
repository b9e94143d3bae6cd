-- A bridge: what functions answer that do a part of what Objects says.
use Rattle.pv_world.specs.Doing.{Done, Answers}
use Rattle.pv_eval.specs.States.{Setting}
use Rattle.pv_world.specs.Worlds.{World}
use Rattle.pv_world.specs.Objects as object
use Rattle.pv_typed.specs.TypedUnits.{TypedFunction}
use Rattle.std.specs.Prelude.{ℕ, Bool, not, ◌==◌}
use Rattle.pv_eval.specs.Objects.{heap_name, instance_for}
use Rattle.pv_world.specs.Worths.{pointer}
use Rattle.pv_world.specs.Telling.{no_telling}

-- an identifier designates the object in scope
abbrev pub names_object : Setting → ℕ → World → Done
names_object b o w = Answers (pointer (object.address_of w (instance_for b o w))) w no_telling

-- a function whose name isn't that of allocations, as none in a checked unit is
abbrev pub can_place : TypedFunction → Bool
can_place x = not (x.name == heap_name)
