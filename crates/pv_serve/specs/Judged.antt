-- What a source with a script of addresses comes to, by the task that is done with it.
use Rattle.std.specs.Prelude.{◌≡◌, ℕ, Bool, true, false, ◌<◌, ◌≤◌, List, length, map, Ok, Err, Option, None, Some, is_none}
use Rattle.pv_script.specs.declared.scripts.ScriptError.{ScriptError}
use Rattle.pv_script.specs.Lines.{ScriptLine}
use Rattle.pv_script.specs.Scripts.{script_of}
use Rattle.pv_typed.specs.TypedUnits.{WholeUnit}
use Rattle.pv_typed.specs.Tables.{Stored, whole_unit}
use Rattle.pv_describe.specs.Describing.{check_text, layout_text}
use Rattle.pv_world.specs.Worlds.{Worth}
use Rattle.pv_eval.specs.States.{Res, State}
use Rattle.pv_exec.specs.Run.{setting_of, run_of, outcome_of, sides_at}
use Rattle.pv_exec.specs.Answering.{end_of}
use Rattle.pv_exec.specs.Sided.{side_of}
use Rattle.pv_serve.specs.declared.words.Task.{Task}
use Rattle.pv_serve.specs.declared.words.Task.TheVariants as task
use Rattle.pv_serve.specs.Verdicts.{Refusal, Verdict, Ending, Ended, Settled, Described, Refused, Size, Script}
use Rattle.pv_serve.specs.Readings.{Program, Bad}
use Rattle.pv_serve.specs.Comes.{Comes, source_limit}
use Rattle.pv_exec.specs.Outlets.{event_of}

-- 5.1.2.3: how a run ends (5.1.2.2.3p1), at which turn, and what it shows: its output (5.1.2.3p6), what happened in its memory, and the side of each
-- of its pairs of candidates, the low one where it stands for both (the memory model); in a unit with these names (6.4.2.1)
pub record Ends (run : Res Worth) (texts : List (List ℕ)) (e : Ending) : Type 0 where
  pub outcome : outcome_of run ≡ Some e.outcome
  pub turns : e.turns ≡ (end_of run).taken
  pub output : e.output ≡ (end_of run).output
  pub events : e.events ≡ map event_of (end_of run).events
  pub sides : e.sides ≡ map side_of (sides_at (end_of run))
  pub names : e.names ≡ texts

-- 5.1.2.3: the run of a unit, with its script, the bound on its turns, whether a pointer to what has ended is indeterminate (6.2.4p2), and the sides for
-- which its pairs of candidates stand from their making, where there are any (the memory model). A run numbers the types of its unit, for the marks that
-- stores leave (6.5p6). Which numbers doesn't matter: all tables that stand for a unit give the same run, and each unit has tables (a law, proved in a
-- crate above). So it is the run of any tables that stand for the unit.
pub record IsRunBy (unit : WholeUnit) (lines : List ScriptLine) (bound : ℕ) (zap : Bool) (sides : Option (List Bool)) (run : Res Worth) : Type 0 where
  pub tables : Stored
  pub stands : whole_unit tables ≡ unit
  pub is : run ≡ run_of (setting_of tables bound sides zap) lines

-- 5.1.2.3: the run of a unit ends so
pub record RunEnds (unit : WholeUnit) (lines : List ScriptLine) (bound : ℕ) (zap : Bool) (sides : Option (List Bool)) (e : Ending) : Type 0 where
  pub run : Res Worth
  pub runs : IsRunBy unit lines bound zap sides run
  pub ends : Ends run unit.names e

-- 5.1.2.3: what is done with a unit comes to this: the end of its run, in which each pair of candidates is settled at its first use that tells (the
-- memory model); the end of its run that is settled by these sides, or, where none are given, settled late and told with its sides; or a text that describes
-- it (docs/FORMATS.md)
abbrev pub UnitGives : WholeUnit → List ScriptLine → Task → (sides : Option (List Bool)) → Verdict → Type 0
UnitGives unit lines (task.Run bound zap) sides verdict = (e : Ending) × RunEnds unit lines bound zap None e × (verdict ≡ Ended e bound)
UnitGives unit lines (task.Settle bound zap) sides verdict = (e : Ending) × RunEnds unit lines bound zap sides e × (verdict ≡ Settled e bound (is_none sides))
UnitGives unit lines task.Check sides verdict = verdict ≡ Described (check_text unit)
UnitGives unit lines task.Layout sides verdict = verdict ≡ Described (layout_text unit)

-- 5.1.1.3p1: what is first refused: a source that is too long (5.2.4.1), its script (docs/FORMATS.md), then the source for what stands in it
-- (6.4 to 6.9). A program that is refused for none of these decides.
pub data Judged (source script : List ℕ) (t : Task) (sides : Option (List Bool)) (verdict : Verdict) : Type 0 where
  Oversize : source_limit < length source → verdict ≡ Refused Size → Judged source script t sides verdict
  Unread : (why : ScriptError) → length source ≤ source_limit → script_of script ≡ Err why → verdict ≡ Script why → Judged source script t sides verdict
  Unfit : (lines : List ScriptLine) (refusal : Refusal) → length source ≤ source_limit → script_of script ≡ Ok lines → Comes source (Bad refusal) → verdict ≡ Refused refusal → Judged source script t sides verdict
  Fit : (lines : List ScriptLine) (unit : WholeUnit) → length source ≤ source_limit → script_of script ≡ Ok lines → Comes source (Program unit) → UnitGives unit lines t sides verdict → Judged source script t sides verdict

-- 5.1.2.3: a source that is a program, with a script that has a reading: what is left is to run it
pub record IsToRun (source script : List ℕ) : Type 0 where
  pub lines : List ScriptLine
  pub unit : WholeUnit
  pub short : length source ≤ source_limit
  pub reads : script_of script ≡ Ok lines
  pub comes : Comes source (Program unit)

-- 5.1.2.3: how a unit is run: with so many turns at most (5.1.2.3p1), whether a pointer to what has ended is indeterminate (6.2.4p2), with these
-- sides, if there are any, and as a settled run or as one that is watched (the memory model)
pub record Plan : Type 0 where
  pub bound : ℕ
  pub zap : Bool
  pub sides : Option (List Bool)
  pub settles : Bool

-- 5.1.2.3: how a task runs a unit, if it does: one that is watched settles its pairs late, a settled run by these sides, or late where none are given
-- (the memory model)
abbrev pub plan_of : Task → (sides : Option (List Bool)) → Option Plan
plan_of (task.Run bound zap) sides = Some (record { bound = bound; zap = zap; sides = None; settles = false })
plan_of (task.Settle bound zap) sides = Some (record { bound = bound; zap = zap; sides = sides; settles = true })
plan_of _ sides = None

-- 5.1.2.3: the source is run as the task says, and of the state in which its run ends, with the names of its unit, P holds, whichever way it ends
pub record SomeRun (source script : List ℕ) (t : Task) (sides : Option (List Bool)) (P : State → List (List ℕ) → Type 0) : Type 0 where
  pub plan : Plan
  pub asks : plan_of t sides ≡ Some plan
  pub job : IsToRun source script
  pub run : Res Worth
  pub runs : IsRunBy job.unit job.lines plan.bound plan.zap plan.sides run
  pub holds : P (end_of run) job.unit.names

-- docs/FORMATS.md: the most bytes of a script of addresses (the memory model: where storage instances lie)
unfoldable pub script_limit : ℕ
script_limit = 65536
