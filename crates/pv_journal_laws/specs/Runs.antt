-- What a run tells, and when the text that is written of it is the journal of lines that obey (docs/FORMATS.md, Journals; the memory model).
use Rattle.std.specs.Prelude.{◌≡◌, ◌<◌, ◌^◌, ◌⊎◌, ℕ, Bool, List, true, None, Some, map, nat_le}
use Rattle.pv_script.specs.Lines.{ScriptLine}
use Rattle.pv_typed.specs.Tables.{Stored}
use Rattle.pv_watch.specs.declared.event.Event.{Event}
use Rattle.pv_watch.specs.declared.event.What.{What}
use Rattle.pv_watch.specs.declared.event.What.TheVariants as what
use Rattle.pv_watch.specs.Texts.{journal_text}
use Rattle.pv_world.specs.Worlds.{Worth}
use Rattle.pv_eval.specs.declared.marked.Marked.{Marked}
use Rattle.pv_eval.specs.States.{State, Res, end_of}
use Rattle.pv_exec.specs.declared.outcome.Outcome.TheVariants as outcome
use Rattle.pv_exec.specs.Run.{outcome_of}
use Rattle.pv_exec.specs.Laws.{run_at}
use Rattle.pv_exec.specs.Outlets.{event_of}
use Rattle.pv_journal.specs.Journals.{Row}
use Rattle.pv_journal.specs.Obeying.{IsJournal}

-- 5.1.2.3: where the run of a unit with this script and bound ends, in which pairs of candidates are settled by uses, and pointers to what has
-- ended may not be used (6.2.4p2)
abbrev pub run_end : Stored → List ScriptLine → (bound : ℕ) → State
run_end u script n = end_of (run_at u None true script n)

-- the memory model: the events that were told by then
abbrev pub events_at : Stored → List ScriptLine → (bound : ℕ) → List Event
events_at u script n = map event_of (run_end u script n).events

-- the memory model: which instance of its name a new one is 64 bits can say
abbrev pub IsFew : What → Type 0
IsFew (what.Made inst name k base size) = k < 2 ^ 64
IsFew (what.Ended i) = Unit {0}
IsFew (what.Exposed i) = Unit {0}
IsFew (what.Pair pair address low high) = Unit {0}
IsFew (what.Tried pair test low high) = Unit {0}
IsFew (what.Fault verdict low high pair) = Unit {0}

-- 5.1.2.3: and its turn
pub record FitsLine (m : Marked) : Type 0 where
  pub turn : m.event.turn < 2 ^ 64
  pub few : IsFew m.event.what

-- the memory model, docs/FORMATS.md, Journals: the text that is written of these events, where names have these texts, is the journal of lines that
-- obey
-- worked: reused_tells, met_tells (proofs/JournalExamples)
abbrev pub TellsAJournal : List Event → List (List ℕ) → Type 0
TellsAJournal seen names = (rows : List Row) × IsJournal rows (journal_text seen names)

-- 5.1.2.3: an event that came at this turn at the latest
abbrev pub is_upto : (turn : ℕ) → Event → Bool
is_upto n e = nat_le e.turn n

-- 5.1.2.3: a run that took more turns than these, or as many when another was due
abbrev pub TookAll : (turns : ℕ) → Res Worth → Type 0
TookAll n r = (n < (end_of r).taken) ⊎ (((end_of r).taken ≡ n) × (outcome_of r ≡ Some outcome.Turns))
