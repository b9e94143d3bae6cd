use Rattle.std.proofs.Common.{subst}
use Rattle.pv_typed.specs.NodeTrees.{expression_at}
use Rattle.pv_world.specs.Coming.{worth_of}
use Rattle.pv_eval.specs.States.{then_do}
use Rattle.pv_eval.specs.OfRuns.{with_conversion}
use Rattle.pv_eval.specs.Operations.{Accepts, act}
use Rattle.pv_eval.specs.Moments.{Came, state_of}
use Rattle.pv_eval.proofs.converting.hand.Goals as goal

pub returns-clause-came : goal.returns-clause-came
returns-clause-came c = λ b out es hs hl.
    subst (λ l. Came (then_do (with_conversion b (expression_at c.args.unit.now c.args.child) (worth_of c.args.v) (state_of c.args.moment.now out es)) (λ v s. act b l (Accepts v) s)) c.hand_on.result (state_of c.hand_on.new.moment out es))
    (c.line_of.ensures.expression c.requires.there) (c.hand_on.ensures.came b out es hs hl)
