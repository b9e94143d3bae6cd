use Rattle.std.proofs.Common.{None, subst}
use Rattle.pv_seq.specs.Rivals.{top}
use Rattle.pv_typed.specs.TypedTree.{type_of}
use Rattle.pv_typed.specs.NodeTrees.{expression_at}
use Rattle.pv_world.specs.Coming.{worth_of}
use Rattle.pv_eval.specs.TypeForms.{lvalue}
use Rattle.pv_eval.specs.Moments.{state_of}
use Rattle.std.specs.Prelude.{if◌then◌else◌}
use Rattle.pv_eval.specs.States.{then_do}
use Rattle.pv_eval.specs.Sequenced.{node_value}
use Rattle.pv_eval.specs.Steps.{is_after}
use Rattle.pv_eval.specs.OfRuns.{writing, stepping}
use Rattle.pv_eval.specs.Ahead.{Led}
use Rattle.pv_eval.proofs.compound.step_and_keep.Goals as goal

pub returns-in-Ok-clause-led : goal.returns-in-Ok-clause-led
returns-in-Ok-clause-led c = λ b out es hs hl call.
    let u = c.args.unit.now in
    subst (λ z. Led b call u (then_do (stepping b c.args.line (type_of (expression_at u c.args.n)) c.args.o (worth_of c.args.v) (state_of c.args.moment.now out es)) (λ w s. writing b (lvalue b (type_of (expression_at u c.args.a))) c.args.line (worth_of c.args.place) w None (top c.args.journal.now) s (λ j w s. node_value j (if is_after c.args.o then z else w) s))) c.step_and_write.result c.step_and_write.new.journal (state_of c.step_and_write.new.moment out es)) c.in-Ok.ensures
    (c.step_and_write.ensures.led b out es hs hl call)
