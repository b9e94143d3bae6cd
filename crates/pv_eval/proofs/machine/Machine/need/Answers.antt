use Rattle.std.proofs.Common.{ap, ◌∙◌}
use Rattle.pv_typed.specs.TypedTree.{line_of}
use Rattle.pv_typed.specs.NodeTrees.{expression_at}
use Rattle.pv_eval.specs.States.{then_do}
use Rattle.pv_eval.specs.OfRuns.{with_conversion}
use Rattle.pv_eval.specs.Operations.{Needs, act}
use Rattle.pv_eval.proofs.Machining.{needed-over}
use Rattle.pv_eval.proofs.machine.Machine.need.Goals as goal

pub returns-clause-needed : goal.returns-clause-needed
returns-clause-needed c =
    needed-over c.args.unit.now _ _ c.need.new.moment (λ b w s. then_do (with_conversion b (expression_at c.args.unit.now c.args.n) w s) (λ v s. act b (line_of (expression_at c.args.unit.now c.args.n)) (Needs v) s)) _ _
    (ap (λ m. m.moment) c.self.view_is ∙ c.value-v.ensures.moment) c.value-v.ensures.value c.need.result c.need.ensures.needed
