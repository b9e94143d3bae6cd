use Rattle.pv_guards.proofs.Concluding.{no-guard}
use Rattle.pv_guards.proofs.laws.typed_expressions_meet_no_guard.Goals as goal

pub returns : goal.returns
returns c = record { same = λ b os call other agree x h. no-guard b os call other agree x h }
