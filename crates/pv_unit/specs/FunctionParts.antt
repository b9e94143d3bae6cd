-- A bridge: what functions answer that do a part of what Functions says.
use Rattle.pv_check.specs.State.{State}
use Rattle.pv_check.specs.Derivations.{Parameter}
use Rattle.pv_typed.specs.AddingParts.{with_declaration}
use Rattle.pv_typed.specs.TypedUnits.{function_at}
use Rattle.pv_typed.specs.TypedStatement.{TypedStatement}
use Rattle.pv_unit.specs.Redeclarations.{UnitState, with_function}
use Rattle.pv_unit.specs.Statements.{block_of, Around}
use Rattle.pv_unit.specs.Functions.{with_parameters}
use Rattle.std.specs.Prelude.{Option, Some, ℕ, List, false}
use Rattle.pv_types.specs.Ty.{Ty}

-- 6.9p1: one external declaration more: the count that `check` prints
abbrev pub counted_state : State → State
counted_state s = record s { unit = with_declaration s.unit }

-- 6.9p1: one external declaration more, in what is known behind it
abbrev pub with_one_external : UnitState → Option UnitState
with_one_external u = Some (record u { state = record u.state { unit = with_declaration u.state.unit } })

-- 6.9.1: the function f has this body
abbrev pub with_body : ℕ → TypedStatement → State → State
with_body f b s = with_function f (record (function_at s.unit f) { body = Some b }) s

-- 6.9.1: the function f has these parameters, and the block of these items as its body
abbrev pub with_definition : ℕ → List Parameter → (line : ℕ) → List TypedStatement → State → State
with_definition f ps line xs s = with_body f (block_of line xs) (with_parameters f ps s)

-- 6.8.6: outside of all loops and switches, in a function that returns this
abbrev pub body_of : Ty → Around
body_of t = record { result = t; breaks = false; continues = false }
