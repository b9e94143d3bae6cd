-- A bridge: what the judging functions answer: a verdict, or what a call that was cut off left of one (5.1.2.3).
use Rattle.std.specs.Prelude.{◌≡◌, ◌⊎◌, ℕ, Bool, List, [], Option, Some, Result, Ok, Err}
use Rattle.pv_script.specs.Outside.{Rose}
use Rattle.pv_watch.specs.declared.event.Event.{Event}
use Rattle.pv_script.specs.Lines.{ScriptLine}
use Rattle.pv_typed.specs.TypedUnits.{WholeUnit}
use Rattle.pv_world.specs.Worlds.{Worth}
use Rattle.pv_eval.specs.States.{Res, State}
use Rattle.pv_exec.specs.declared.program.RunError.{RunError}
use Rattle.pv_exec.specs.declared.program.RunError.TheVariants as error
use Rattle.pv_exec.specs.declared.program.Ran.{Ran}
use Rattle.pv_exec.specs.Answering.{end_of}
use Rattle.pv_exec.specs.Outlets.{ToldPart}
use Rattle.pv_serve.specs.declared.words.Task.{Task}
use Rattle.pv_serve.specs.declared.judging.Judgement.{Judgement}
use Rattle.pv_serve.specs.declared.judging.Judgement.TheVariants as judgement
use Rattle.pv_serve.specs.Verdicts.{Verdict, Ending, Ended, Settled, Described, Refused, Script}
use Rattle.pv_serve.specs.ReportParts.{course_of, output_of}
use Rattle.pv_serve.specs.VerdictParts.{BeganOutput}
use Rattle.pv_serve.specs.Loading.{refusal_of}
use Rattle.pv_serve.specs.Judged.{Judged, Plan, plan_of, SomeRun, UnitGives, IsRunBy}
use Rattle.pv_serve.specs.LateSettling.{SettlesRight}
use Rattle.pv_serve.specs.Outside.{Sunk, Wrote, Halls}
use Rattle.pv_serve.specs.Watching.{AreTold}

-- 5.1.2.3p6: what left a run: the bytes that it printed, and its events (the memory model)
pub record Shown : Type 0 where
  pub output : List ℕ
  pub events : List Event

-- 5.1.2.3p6: nothing left a run
abbrev pub nothing_shown : Shown
nothing_shown = record { output = []; events = [] }

-- how the run that was made ended, where this left it
abbrev pub ending_of : Ran → (names : List (List ℕ)) → Shown → Ending
ending_of ran names shown = record { outcome = ran.outcome; turns = ran.turns; output = shown.output; events = shown.events; sides = ran.sides; names = names }

-- the verdict that a judgement is, where this left its run
abbrev pub verdict_of : Judgement → Shown → Verdict
verdict_of (judgement.Ran ran names bound) shown = Ended (ending_of ran names shown) bound
verdict_of (judgement.Settled ran names bound listed) shown = Settled (ending_of ran names shown) bound listed
verdict_of (judgement.Described text) shown = Described text.items
verdict_of (judgement.Source why) shown = Refused (refusal_of why)
verdict_of (judgement.Script why) shown = Script why

-- 5.1.2.3p6: a judgement is the verdict, and what it says of sides is right (the memory model); the sink gained what was printed, and those who watch were
-- told what happened
pub record IsJudged (source script : List ℕ) (t : Task) (sides : Option (List Bool)) (out : Sunk) (hall : Halls) (j : Judgement) : Type 0 where
  pub shown : Shown
  pub judged : Judged source script t sides (verdict_of j shown)
  pub right : SettlesRight (Judged source script t) (verdict_of j shown)
  pub gains : Wrote out (output_of (verdict_of j shown))
  pub told : AreTold (course_of (verdict_of j shown)) hall.old hall.new

-- 7.21.3p3: a first part of what is printed left the run, and a first part of what is told
abbrev pub LeftPart : (out : Sunk) (hall : Halls) → State → (names : List (List ℕ)) → Type 0
LeftPart out hall end names = ToldPart (record { sink = out.old; hall = hall.old }) (record { sink = out.new; hall = hall.new }) end names

-- 7.21.3p3: there is no judgement: where memory ran out, the sink gained nothing, or a first part of what is printed; where a write failed, a
-- first part of what is printed left the run, and a first part of what is told
abbrev pub IsCutOff : (source script : List ℕ) → Task → (sides : Option (List Bool)) → (out : Sunk) (hall : Halls) → RunError → Type 0
IsCutOff source script t sides out hall error.NoMemory = Wrote out [] ⊎ SomeRun source script t sides (BeganOutput out)
IsCutOff source script t sides out hall error.WriteFault = SomeRun source script t sides (LeftPart out hall)

-- 5.1.2.3p6: a judgement of a unit, with the lines of a script, is what the task gives
pub record UnitJudged (unit : WholeUnit) (lines : List ScriptLine) (t : Task) (sides : Option (List Bool)) (out : Sunk) (hall : Halls) (j : Judgement) : Type 0 where
  pub shown : Shown
  pub gives : UnitGives unit lines t sides (verdict_of j shown)
  pub right : SettlesRight (UnitGives unit lines t) (verdict_of j shown)
  pub gains : Wrote out (output_of (verdict_of j shown))
  pub told : AreTold (course_of (verdict_of j shown)) hall.old hall.new

-- the unit is run as the task says, and of the state in which its run ends, with its names, P holds
pub record UnitRun (unit : WholeUnit) (lines : List ScriptLine) (t : Task) (sides : Option (List Bool)) (P : State → List (List ℕ) → Type 0) : Type 0 where
  pub plan : Plan
  pub asks : plan_of t sides ≡ Some plan
  pub run : Res Worth
  pub runs : IsRunBy unit lines plan.bound plan.zap plan.sides run
  pub holds : P (end_of run) unit.names

-- 7.21.3p3: there is no judgement of a unit
abbrev pub UnitCutOff : WholeUnit → List ScriptLine → Task → (sides : Option (List Bool)) → (out : Sunk) (hall : Halls) → RunError → Type 0
UnitCutOff unit lines t sides out hall error.NoMemory = Wrote out [] ⊎ UnitRun unit lines t sides (BeganOutput out)
UnitCutOff unit lines t sides out hall error.WriteFault = UnitRun unit lines t sides (LeftPart out hall)

-- 7.21.8.2p3: a write failed only where the sink counts a fault more
abbrev pub HasFault : {A : Type 0} → Result A RunError → (before now : ℕ) → Type 0
HasFault (Ok x) before now = Unit {0}
HasFault (Err error.WriteFault) before now = Rose before now
HasFault (Err error.NoMemory) before now = Unit {0}
