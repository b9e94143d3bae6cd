-- Laws of whole runs (C17 5.1.2.3): the bound on turns, and two runs at two bounds.
use Rattle.std.specs.Prelude.{◌≡◌, ◌⊎◌, ℕ, ◌+◌, ◌≤◌, Bool, List, length, Some}
use Rattle.std.specs.declared.option.Option.{Option}
use Rattle.pv_script.specs.Lines.{ScriptLine}
use Rattle.pv_typed.specs.Known.{Each}
use Rattle.pv_typed.specs.Tables.{Stored}
use Rattle.pv_world.specs.Worlds.{Worth}
use Rattle.pv_eval.specs.declared.marked.Marked.{Marked}
use Rattle.pv_eval.specs.States.{State, Res, end_of}
use Rattle.pv_exec.specs.declared.outcome.Outcome.TheVariants as outcome
use Rattle.pv_exec.specs.Run.{setting_of, run_of, outcome_of}
use Rattle.pv_exec.specs.Growing.{Grew}

-- 5.1.2p1: the run of a unit with this bound
abbrev pub run_at : Stored → Option (List Bool) → (zap : Bool) → List ScriptLine → (bound : ℕ) → Res Worth
run_at u sides zap script n = run_of (setting_of u n sides zap) script

-- 5.1.2.3: an event that came by this turn, when so many bytes were printed at most
abbrev pub IsUpto : (turn printed : ℕ) → Marked → Type 0
IsUpto n k m = (m.event.turn ≤ n) × (m.mark ≤ k)

-- no more turns (5.1.2.3) were taken than the bound allows, and all events came by then
pub record IsWithin (bound : ℕ) (s : State) : Type 0 where
  pub taken : s.taken ≤ bound
  pub events : Each (IsUpto s.taken (length s.output)) s.events

-- a run that ends by turns (5.1.2.3) took all of them
abbrev pub TakesAll : (bound : ℕ) → Res Worth → Type 0
TakesAll n r = outcome_of r ≡ Some outcome.Turns → (end_of r).taken ≡ n

-- 5.1.2.3: a run at a lesser bound, beside that at a greater one: it was cut off when another turn was due, and the other went on
pub record IsCutOff (n : ℕ) (r r' : Res Worth) : Type 0 where
  pub outcome : outcome_of r ≡ Some outcome.Turns
  pub taken : (end_of r).taken ≡ n
  -- what the other one printed and told later is later
  pub goes_on : Grew (n + 1) (end_of r) (end_of r')

-- 5.1.2.3: or it is the same run
abbrev pub IsCut : (n : ℕ) → Res Worth → Res Worth → Type 0
IsCut n r r' = (r' ≡ r) ⊎ IsCutOff n r r'
