-- A bridge: what `run` answers, of the run that is defined.
use Rattle.std.specs.Prelude.{◌≡◌, ℕ, Bool, List, None, Some, map, Result, Ok, Err}
use Rattle.std.specs.declared.option.Option.{Option}
use Rattle.pv_script.specs.Lines.{ScriptLine}
use Rattle.pv_script.specs.Outside.{Rose, Gains}
use Rattle.pv_typed.specs.Tables.{Stored}
use Rattle.pv_watch.specs.declared.event.Event.{Event}
use Rattle.pv_watch.specs.declared.hall.Hall.{Hall}
use Rattle.pv_watch.specs.Seen.{Kind}
use Rattle.pv_watch.specs.Slots.{Slot, Told}
use Rattle.pv_world.specs.Worlds.{Worth}
use Rattle.pv_eval.specs.declared.marked.Marked.{Marked}
use Rattle.pv_eval.specs.Moments.{Moment}
pub use Rattle.pv_eval.specs.States.{end_of}
use Rattle.pv_eval.specs.States.{State, Res}
use Rattle.pv_eval.specs.Constants.{is_high_pair}
use Rattle.pv_exec.specs.declared.sides.Side.{Side}
use Rattle.pv_exec.specs.declared.program.Ran.{Ran}
use Rattle.pv_exec.specs.declared.program.RunError.{RunError}
use Rattle.pv_exec.specs.declared.program.RunError.TheVariants as error
use Rattle.pv_exec.specs.declared.outcome.Outcome.{Outcome}
use Rattle.pv_exec.specs.declared.delivering.Undelivered.{Undelivered}
use Rattle.pv_exec.specs.declared.delivering.Undelivered.TheVariants as undelivered
use Rattle.pv_exec.specs.declared.running.Ended.{Ended}
use Rattle.pv_exec.specs.declared.running.Broken.{Broken}
use Rattle.pv_exec.specs.declared.running.Broken.TheVariants as broken
use Rattle.pv_exec.specs.Run.{setting_of, run_of, outcome_of, sides_at}
use Rattle.pv_watch.specs.Halls.{hall_slots}
use Rattle.pv_exec.specs.Outlets.{Outlet, event_of, ToldPart}
use Rattle.pv_exec.specs.Stages.{LetOut}
use Rattle.pv_exec.specs.Sided.{side_of, is_high}

-- the sides that are given, each by whether it is the high one (the memory model: a pair of candidates)
abbrev pub highs : {R : Type 0} → Option R → (R → List Side) → Option (List Bool)
highs None view = None
highs (Some r) view = Some (map is_high (view r))

-- how it ended (5.1.2.2.3p1), at which turn, on which side each pair of candidates stands (the memory model), and in which world
pub record RanAs (r : Res Worth) (ran : Ran) : Type 0 where
  pub outcome : outcome_of r ≡ Some ran.outcome
  pub turns : ran.turns ≡ (end_of r).taken
  pub sides : ran.sides ≡ map side_of (sides_at (end_of r))
  pub world : ran.world ≡ (end_of r).world

-- 5.1.2.2.3p1: the same, by the moment at which the run is over
pub record RanAt (o : Outcome) (m : Moment) (ran : Ran) : Type 0 where
  pub outcome : ran.outcome ≡ o
  pub turns : ran.turns ≡ m.taken
  pub sides : ran.sides ≡ map side_of (map is_high_pair m.world.memory.table.pairs)
  pub world : ran.world ≡ m.world

-- what the outside has (5.1.2.3p6), by what the sink tells and by its hall
abbrev pub outlet : {X : Type 0} {P : X → Type 0} → Option (List ℕ) → Hall X P → ((x : X) × P x → Kind) → ((x : X) × P x → ℕ) → ((x : X) × P x → List Event) → Outlet
outlet sink h kind wants seen = record { sink = sink; hall = hall_slots h kind wants seen }

-- 5.1.2.3p6: those who watch were told of the run, or of a first part of it where a write failed
abbrev pub ToldOr : Result Ran RunError → Outlet → Outlet → State → List (List ℕ) → Type 0
ToldOr (Ok ran) before now end names = Told before.hall (map event_of end.events) names now.hall
ToldOr (Err error.WriteFault) before now end names = ToldPart before now end names
ToldOr (Err error.NoMemory) before now end names = Unit {0}

-- where a write failed: what was written and told, and how far the run was let out so (7.21.3p3)
pub record LeftAt (before now : Outlet) (stage : ℕ → State) (taken : ℕ) (names : List (List ℕ)) : Type 0 where
  pub written : List ℕ
  pub gains : Gains before.sink now.sink written
  pub events : List Marked
  pub told : Told before.hall (map event_of events) names now.hall
  pub let_out : LetOut stage taken written events

-- 5.1.2.3p6, 7.21.3p3: nothing was held back for longer than its block took to be full, which shows where a write fails
abbrev pub StreamedOr : Result Ran RunError → (before now : Outlet) → (stage : ℕ → State) → (taken : ℕ) → List (List ℕ) → Type 0
StreamedOr (Ok ran) before now stage taken names = Unit {0}
StreamedOr (Err error.WriteFault) before now stage taken names = LeftAt before now stage taken names
StreamedOr (Err error.NoMemory) before now stage taken names = Unit {0}

-- 5.1.2.3p6: once the run is over, what waited was told; where a write failed nothing
abbrev pub RestTold : Result Ran RunError → List Slot → List Slot → List Event → List (List ℕ) → Type 0
RestTold (Ok ran) old new events names = Told old events names new
RestTold (Err error.WriteFault) old new events names = new ≡ old
RestTold (Err error.NoMemory) old new events names = Unit {0}

-- why there is no outcome (5.1.2.2.3p1)
abbrev pub error_of : Undelivered → RunError
error_of undelivered.NoMemory = error.NoMemory
error_of undelivered.WriteFault = error.WriteFault

-- the same of a run that has no outcome (5.1.2.2.3p1)
abbrev pub error_by : Result Ended Broken → RunError
error_by (Ok x) = error.NoMemory
error_by (Err (broken.Operation e)) = error.NoMemory
error_by (Err (broken.Delivery e)) = error_of e

-- 5.1.2.2.3p1: the state in which the run of a unit ends
abbrev pub end_at : Stored → (bound : ℕ) → Option (List Bool) → (zap : Bool) → List ScriptLine → State
end_at u n sides zap script = end_of (run_of (setting_of u n sides zap) script)

-- a write failed only where the sink counts a fault more (docs/FORMATS.md, status 12)
abbrev pub FaultCause : Result Ran RunError → (before now : ℕ) → Type 0
FaultCause (Ok ran) before now = Unit {0}
FaultCause (Err error.WriteFault) before now = Rose before now
FaultCause (Err error.NoMemory) before now = Unit {0}
