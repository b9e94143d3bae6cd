-- A bridge: what `judge` answers of a source with its script: how its run ended, whose pairs of candidates are settled late or, with sides, at their making
-- (the memory model), or why it has none.
use Rattle.std.specs.Prelude.{◌≡◌, ◌⊎◌, ℕ, ◌≤◌, Bool, List, [], length, map, Option, None, Some}
use Rattle.pv_typed.specs.Known.{Each}
use Rattle.pv_typed.specs.Tables.{Stored, whole_unit}
use Rattle.pv_watch.specs.Slots.{Told}
use Rattle.pv_world.specs.Worlds.{Worth}
use Rattle.pv_eval.specs.States.{State, Res}
use Rattle.pv_exec.specs.declared.program.Ran.{Ran}
use Rattle.pv_exec.specs.declared.program.RunError.{RunError}
use Rattle.pv_exec.specs.declared.program.RunError.TheVariants as error
use Rattle.pv_exec.specs.Outlets.{event_of}
use Rattle.pv_exec.specs.Sided.{is_high}
use Rattle.pv_exec.specs.Settling.{IsDecided, IsUndefined, EndsAlike, EndsBy}
use Rattle.pv_exec.specs.Answering.{RanAs, LeftAt, end_of, end_at}
use Rattle.pv_exec.specs.Stages.{stage_of}
use Rattle.pv_exec.specs.Words.{FitsWords}
use Rattle.pv_serve.specs.declared.judging.Judgement.{Judgement}
use Rattle.pv_serve.specs.declared.judging.Judgement.TheVariants as judgement
use Rattle.pv_serve.specs.Fitting.{IsFit}
use Rattle.pv_serve.specs.Loading.{IsSourceRefused, IsScriptRefused}
use Rattle.pv_serve.specs.Judged.{IsToRun, IsRunBy}
use Rattle.pv_serve.specs.Outside.{Sunk, Wrote, WrotePrefix, Halls}
use Rattle.pv_serve.specs.Judging.{LeftPart}

-- the source is run, with so many turns at most, with a pointer to what has ended indeterminate (6.2.4p2) or not, and with these sides, if
-- there are any (the memory model), by tables that are fit to be run (6.9), and of its run, with the names of its unit (6.4.2.1), P holds
pub record SomeRunBy (source script : List ℕ) (bound : ℕ) (zap : Bool) (sides : Option (List Bool)) (P : Res Worth → List (List ℕ) → Type 0) : Type 0 where
  pub job : IsToRun source script
  pub run : Res Worth
  pub runs : IsRunBy job.unit job.lines bound zap sides run
  pub fit : IsFit runs.tables
  pub holds : P run job.unit.names

-- 5.1.2.3p6: what is told of a run, in a unit with these names: how it ended (5.1.2.2.3p1), at which turn, and to which side each of its pairs was
-- settled (the memory model). The sink gained all that it printed, and those who watch were told all that happened in its memory, in numbers of 64 bits.
pub record IsRan (out : Sunk) (hall : Halls) (ran : Ran) (names : List (List ℕ)) (run : Res Worth) (texts : List (List ℕ)) : Type 0 where
  pub ended : RanAs run ran
  pub gains : Wrote out (end_of run).output
  pub told : Told hall.old (map event_of (end_of run).events) texts hall.new
  pub words : Each FitsWords (end_of run).events
  pub named : names ≡ texts

-- there is no run: nothing was printed, and nobody was told of anything
pub record IsQuiet (out : Sunk) (hall : Halls) : Type 0 where
  pub gains : Wrote out []
  pub told : hall.new ≡ hall.old

-- what a source with its script comes to: the end of its run with this bound, or the first refusal
abbrev pub IsOutcome : (source script : List ℕ) (bound : ℕ) (zap : Bool) (sides : Option (List Bool)) (out : Sunk) (hall : Halls) → Judgement → Type 0
IsOutcome source script bound zap sides out hall (judgement.Ran ran names most) = (most ≡ bound) × SomeRunBy source script bound zap sides (IsRan out hall ran names)
IsOutcome source script bound zap sides out hall (judgement.Settled ran names most listed) = ⊥
IsOutcome source script bound zap sides out hall (judgement.Described text) = ⊥
IsOutcome source script bound zap sides out hall (judgement.Source why) = IsSourceRefused source script why × IsQuiet out hall
IsOutcome source script bound zap sides out hall (judgement.Script why) = IsScriptRefused source script why × IsQuiet out hall

-- 7.21.3p3: what left a run that was cut off: where memory ran out, a first part of what is printed; where a write failed, that and a first part of
-- what is told
abbrev pub IsLeft : (out : Sunk) (hall : Halls) → RunError → Res Worth → (names : List (List ℕ)) → Type 0
IsLeft out hall error.NoMemory run names = WrotePrefix out (end_of run).output
IsLeft out hall error.WriteFault run names = LeftPart out hall (end_of run) names

-- 7.21.3p3: there is no outcome: a run was cut off, or memory ran out before there was one
abbrev pub IsUnfinished : (source script : List ℕ) (bound : ℕ) (zap : Bool) (sides : Option (List Bool)) (out : Sunk) (hall : Halls) → RunError → Type 0
IsUnfinished source script bound zap sides out hall error.NoMemory = Wrote out [] ⊎ SomeRunBy source script bound zap sides (IsLeft out hall error.NoMemory)
IsUnfinished source script bound zap sides out hall error.WriteFault = SomeRunBy source script bound zap sides (IsLeft out hall error.WriteFault)

-- ---- a run is let out by blocks while it goes on

-- 7.21.3p3: where a write failed, what was written and told of a run with these stages, which takes so many turns in all
abbrev pub HasLetOut : (out : Sunk) (hall : Halls) (stage : ℕ → State) (taken : ℕ) (names : List (List ℕ)) → RunError → Type 0
HasLetOut out hall stage taken names error.NoMemory = Unit {0}
HasLetOut out hall stage taken names error.WriteFault =
    LeftAt (record { sink = out.old; hall = hall.old }) (record { sink = out.new; hall = hall.new }) stage taken names

-- 5.1.2.3p6, 7.21.3p3: the same of the source's run: whole blocks and a part of the next one were written, and all events were told up to the stage behind
-- which that block was full, or all turns were taken
pub record IsLetOut (source script : List ℕ) (bound : ℕ) (zap : Bool) (sides : Option (List Bool)) (out : Sunk) (hall : Halls) (e : RunError) : Type 0 where
  pub job : IsToRun source script
  pub tables : Stored
  pub stands : whole_unit tables ≡ job.unit
  pub left : HasLetOut out hall (stage_of tables sides zap job.lines) (end_at tables bound sides zap job.lines).taken job.unit.names e

-- 7.21.3p3: of want of memory nothing is said
abbrev pub IsStreamed : (source script : List ℕ) (bound : ℕ) (zap : Bool) (sides : Option (List Bool)) (out : Sunk) (hall : Halls) → RunError → Type 0
IsStreamed source script bound zap sides out hall error.NoMemory = Unit {0}
IsStreamed source script bound zap sides out hall error.WriteFault = IsLetOut source script bound zap sides out hall error.WriteFault

-- ---- late settling is right (the memory model)

-- 5.1.2.3p6: the run of which this is told, and whose output the sink gained; the run by the sides that are told, from their making (the memory model), ends
-- alike: in the same way, at the same turn, with the same output
pub record IsAgain (source script : List ℕ) (bound : ℕ) (zap : Bool) (out : Sunk) (ran : Ran) (run : Res Worth) : Type 0 where
  pub ended : RanAs run ran
  pub gains : Wrote out (end_of run).output
  pub again : SomeRunBy source script bound zap (Some (map is_high ran.sides)) (λ settled texts. EndsAlike run settled)

-- the memory model: a run that ended neither undefined nor undecided is the one that its own sides settle
abbrev pub IsSettledAgain : (source script : List ℕ) (bound : ℕ) (zap : Bool) (out : Sunk) → Judgement → Type 0
IsSettledAgain source script bound zap out (judgement.Ran ran names most) = IsDecided ran.outcome → SomeRunBy source script bound zap None (λ run texts. IsAgain source script bound zap out ran run)
IsSettledAgain source script bound zap out _ = Unit {0}

-- 3.4.3, the memory model: one that ended undefined ends undefined by every list with a side for each of its pairs, no later; of the others nothing is said
abbrev pub IsUndefinedBy : (source script : List ℕ) (bound : ℕ) (zap : Bool) → Judgement → Type 0
IsUndefinedBy source script bound zap (judgement.Ran ran names most) = IsUndefined ran.outcome → (sides : List Bool) → length ran.sides ≤ length sides
    → SomeRunBy source script bound zap (Some sides) (λ run texts. EndsBy ran.turns run)
IsUndefinedBy source script bound zap _ = Unit {0}
