-- A bridge: late settling, as a run says it of what it answers.
use Rattle.std.specs.Prelude.{ℕ, Bool, List, map, None, Some, ◌≤◌, length}
use Rattle.pv_script.specs.Lines.{ScriptLine}
use Rattle.pv_typed.specs.Tables.{Stored}
use Rattle.pv_exec.specs.declared.outcome.Outcome.TheVariants as outcome
use Rattle.pv_exec.specs.declared.program.Ran.{Ran}
use Rattle.pv_exec.specs.Sided.{is_high}
use Rattle.pv_exec.specs.Laws.{run_at}
use Rattle.pv_exec.specs.Settling.{IsDecided, EndsAlike, IsUndefined, EndsBy}

-- 5.1.2.3p6, the memory model: where a run without sides is decided, the run that settles each pair at its making, to the side that this
-- one ended with, ends alike
abbrev pub SettlesAlike : Stored → (bound : ℕ) → (zap : Bool) → List ScriptLine → Ran → Type 0
SettlesAlike u n zap script ran = IsDecided ran.outcome → EndsAlike (run_at u None zap script n) (run_at u (Some (map is_high ran.sides)) zap script n)

-- 3.4.3, the memory model: where a run without sides is undefined, so is the run by every list with a side for each of its pairs, at a turn
-- that is no later
abbrev pub IsUndefinedByAll : Stored → (bound : ℕ) → (zap : Bool) → List ScriptLine → Ran → Type 0
IsUndefinedByAll u n zap script ran = IsUndefined ran.outcome → (sides : List Bool) → length ran.sides ≤ length sides → EndsBy ran.turns (run_at u (Some sides) zap script n)
