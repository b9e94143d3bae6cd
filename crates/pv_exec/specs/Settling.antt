-- When a pair of candidates is settled (the memory model): by the uses of its name, or from its making by a list of sides. Both come to the same.
use Rattle.std.specs.Prelude.{◌≡◌, ℕ, ◌≤◌, Bool, List, length, None, Some, IfSome, IsSomeAnd}
use Rattle.pv_fault.specs.declared.verdict.Verdict.TheVariants as verdict
use Rattle.pv_script.specs.Lines.{ScriptLine}
use Rattle.pv_typed.specs.Tables.{Stored}
use Rattle.pv_world.specs.Worlds.{Worth}
use Rattle.pv_eval.specs.States.{Res, end_of}
use Rattle.pv_eval.specs.Acting.{pair_count}
use Rattle.pv_exec.specs.declared.outcome.Outcome.{Outcome}
use Rattle.pv_exec.specs.declared.outcome.Outcome.TheVariants.{Ends}
use Rattle.pv_exec.specs.Run.{outcome_of, sides_at}
use Rattle.pv_exec.specs.Laws.{run_at}
use Rattle.pv_exec.specs.Laying.{HasNoEmptyTag}

-- 3.4.3: undefined behaviour
abbrev pub IsUndefined : Outcome → Type 0
IsUndefined (Ends (verdict.Undefined f) line) = Unit {0}
IsUndefined _ = ⊥

-- 3.4.3, the memory model: neither undefined nor undecided
abbrev pub IsDecided : Outcome → Type 0
IsDecided (Ends (verdict.Undefined f) line) = ⊥
IsDecided (Ends verdict.Undecided line) = ⊥
IsDecided _ = Unit {0}

-- 5.1.2.3p6: the second run ends as the first one, after as many turns and with the same output
pub record EndsAlike (r r' : Res Worth) : Type 0 where
  pub outcome : outcome_of r' ≡ outcome_of r
  pub turns : (end_of r').taken ≡ (end_of r).taken
  pub output : (end_of r').output ≡ (end_of r).output

-- 3.4.3: the run ends undefined, at this turn at the latest
pub record EndsBy (turn : ℕ) (r : Res Worth) : Type 0 where
  pub undefined : IsSomeAnd (outcome_of r) IsUndefined
  pub turns : (end_of r).taken ≤ turn

-- 5.1.2.3p6, the memory model: the first of these of every run
abbrev pub LateIsSettled : Type 0
LateIsSettled = (u : Stored) → HasNoEmptyTag u → (zap : Bool) (script : List ScriptLine) (n : ℕ) → let r = run_at u None zap script n in
    IfSome (outcome_of r) IsDecided → EndsAlike r (run_at u (Some (sides_at (end_of r))) zap script n)

-- 3.4.3, the memory model: and the second
abbrev pub UndefinedIsUndefined : Type 0
UndefinedIsUndefined = (u : Stored) → HasNoEmptyTag u → (zap : Bool) (script : List ScriptLine) (n : ℕ) → let r = run_at u None zap script n in
    IsSomeAnd (outcome_of r) IsUndefined → (sides : List Bool) → pair_count (end_of r).world ≤ length sides → EndsBy (end_of r).taken (run_at u (Some sides) zap script n)
