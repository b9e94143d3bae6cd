-- What a run goes by (C17 5.1.2.3): what each operation does in a state, and whether a row goes on for which C has no rule.
use Rattle.std.specs.Prelude.{Bool, true, if◌then◌else◌}
use Rattle.pv_eval.specs.States.{State, Res, Stops, Unreached}
use Rattle.pv_eval.specs.Operations.{act}
use Rattle.pv_eval.specs.Sequenced.{Acts}

-- 5.1.2.3: what operations do; and whether there is an outcome where C has no rule, as for a function without a body that is called (6.9p5)
pub record Rules : Type 0 where
  pub act : Acts
  pub total : Bool

-- 4p2: C has no rule for this; typing makes sure that it isn't met
abbrev pub unruled : {A : Type 0} → Rules → Res A → State → Res A
unruled R r s = if R.total then r else Stops Unreached s

-- 5.1.2.3: what a run goes by: each operation looks first whether its operands suit it, and each row has an outcome
abbrev pub of_runs : Rules
of_runs = record { act = act; total = true }
