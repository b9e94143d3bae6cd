use Rattle.std.proofs.Common.{ap, ◌∙◌}
use Rattle.pv_typed.specs.NodeTrees.{expression_at}
use Rattle.pv_eval.specs.States.{then_do}
use Rattle.pv_eval.specs.OfRuns.{with_conversion}
use Rattle.pv_eval.specs.Operations.{Accepts, act}
use Rattle.pv_eval.proofs.Machining.{came-over}
use Rattle.pv_eval.proofs.machine.Machine.hand.Goals as goal

pub returns-clause-handed : goal.returns-clause-handed
returns-clause-handed c =
    came-over c.args.unit.now _ _ c.hand_on.new.moment (λ b w s. then_do (with_conversion b (expression_at c.args.unit.now c.args.n) w s) (λ v s. act b c.args.line (Accepts v) s)) _ _
    (ap (λ m. m.moment) c.self.view_is ∙ c.value-v.ensures.moment) c.value-v.ensures.value c.hand_on.result c.hand_on.ensures.came
