use Rattle.pv_guards.proofs.Concluding.{its-rule, its-function}
use Rattle.pv_guards.proofs.laws.operations_do_what_rules_say.Goals as goal

pub returns : goal.returns
returns c = record { rule = λ b os op t w s h. its-rule b os op t w s h; found = λ b os t pointee v w s h. its-function b os t pointee v w s h }
