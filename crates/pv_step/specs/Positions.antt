-- A bridge: a position beside the run with that bound on its turns (5.1.2.3p1).
use Rattle.std.specs.Prelude.{ℕ, true, List, None, map}
use Rattle.pv_script.specs.Lines.{ScriptLine}
use Rattle.pv_typed.specs.Tables.{Stored}
use Rattle.pv_watch.specs.declared.event.Event.{Event}
use Rattle.pv_world.specs.Worlds.{Worth}
use Rattle.pv_eval.specs.States.{Res, end_of}
use Rattle.pv_exec.specs.Laws.{run_at}
use Rattle.pv_exec.specs.Outlets.{event_of}
use Rattle.pv_serve.specs.Verdicts.{Ending}
use Rattle.pv_serve.specs.Judged.{Ends}
use Rattle.pv_shown.specs.Commands.{last_position}

-- the run of a unit with its script, when so many turns may be taken, each pair of candidates is settled by its uses (the memory model), and a pointer
-- to what has ended is indeterminate (6.2.4p2)
abbrev pub run_with_bound : Stored → List ScriptLine → (bound : ℕ) → Res Worth
run_with_bound u script n = run_at u None true script n

-- the run that is looked at, with as many turns as there are positions, ends so
abbrev pub IsWhole : Stored → List ScriptLine → Ending → Type 0
IsWhole u script e = Ends (run_with_bound u script last_position) u.names e

-- the memory model: what happened in memory in the run with this bound
abbrev pub events_in : Stored → List ScriptLine → (bound : ℕ) → List Event
events_in u script n = map event_of (end_of (run_with_bound u script n)).events
