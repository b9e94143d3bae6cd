-- What a source is whose unit can be run, and how a run ends (C17 5.1.1.1, 5.1.2).
use Rattle.std.specs.Prelude.{◌≡◌, ℕ, List, Some}
use Rattle.pv_typed.specs.Tables.{Stored, whole_unit}
use Rattle.pv_world.specs.Worlds.{Worth}
use Rattle.pv_eval.specs.States.{Res}
use Rattle.pv_exec.specs.declared.outcome.Outcome.{Outcome}
use Rattle.pv_exec.specs.Run.{outcome_of}
use Rattle.pv_serve.specs.Comes.{Comes}
use Rattle.pv_serve.specs.Readings.{Program}

-- 5.1.1.1p1: the tables are those of the program that the source is
abbrev pub IsProgram : List ℕ → Stored → Type 0
IsProgram source u = Comes source (Program (whole_unit u))

-- 5.1.2: the run ends in one of the ways that a run may end
abbrev pub HasOutcome : Res Worth → Type 0
HasOutcome r = (o : Outcome) × (outcome_of r ≡ Some o)
