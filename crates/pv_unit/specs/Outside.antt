-- A bridge: what the code that types declarations at file scope has and answers.
use Rattle.std.specs.Prelude.{ℕ, Bool, true, false, List, Option, Some, None}
use Rattle.pv_typed.specs.Tables.{Stored}
use Rattle.pv_check.specs.Raw.{Raw}
use Rattle.pv_check.specs.Open.{state_in}
use Rattle.pv_unit.specs.declared.entities.Outer.{Outer}
use Rattle.pv_unit.specs.Redeclarations.{UnitState}

-- what scopes (6.2.1), tables and the entities of file scope (6.9) stand for
abbrev pub unit_state : List (List ℕ) → Raw → Stored → Outer → UnitState
unit_state texts s m o = record { state = state_in texts s m; entities = o.entities; unsized_typedef = o.unsized_typedef }

-- an external declaration (6.9p1) as an answer, with what is known behind it
abbrev pub unit_if : List (List ℕ) → Raw → Stored → Outer → Bool → Option UnitState
unit_if texts s m o false = None
unit_if texts s m o true = Some (unit_state texts s m o)

-- the number of what is declared (6.7p5) as an answer, with what is known behind it
abbrev pub number_if : List (List ℕ) → Raw → Stored → Outer → Option ℕ → Option (ℕ × UnitState)
number_if texts s m o None = None
number_if texts s m o (Some n) = Some (n, unit_state texts s m o)
