-- A bridge: how the code answers how a run ended.
use Rattle.std.specs.Prelude.{None, Some, Result, Ok, Err}
use Rattle.std.specs.declared.option.Option.{Option}
use Rattle.pv_world.specs.Coming.{worth_of, wrong_for}
use Rattle.pv_eval.specs.declared.failure.Failure.TheVariants as failure
use Rattle.pv_exec.specs.declared.outcome.Outcome.{Outcome}
use Rattle.pv_exec.specs.declared.outcome.Outcome.TheVariants as outcome
use Rattle.pv_exec.specs.declared.running.Ended.{Ended}
use Rattle.pv_exec.specs.declared.running.Ended.TheVariants as ended
use Rattle.pv_exec.specs.declared.running.Broken.{Broken}
use Rattle.pv_exec.specs.declared.running.Broken.TheVariants as broken
use Rattle.pv_exec.specs.Run.{status_of, outcome_of_stop}

-- 5.1.2.2.3p1: the outcome; nothing where the run could not go on
abbrev pub outcome_by : Result Ended Broken → Option Outcome
outcome_by (Ok (ended.Value v)) = Some (outcome.Exit (status_of (worth_of v)))
outcome_by (Ok ended.Turns) = Some outcome.Turns
outcome_by (Err (broken.Operation (failure.Stop y line))) = outcome_of_stop (wrong_for y) line
outcome_by (Err (broken.Operation failure.NoMemory)) = None
outcome_by (Err (broken.Delivery e)) = None
