use Rattle.std.proofs.Common.{false, None}
use Rattle.pv_typed.specs.TypedTree.{type_of}
use Rattle.pv_typed.specs.NodeTrees.{expression_at}
use Rattle.pv_world.specs.Worths.{pointer_of}
use Rattle.pv_world.specs.Coming.{worth_of}
use Rattle.pv_eval.specs.TypeForms.{lvalue}
use Rattle.pv_eval.specs.Accesses.{access_to}
use Rattle.pv_eval.specs.Moments.{state_of}
use Rattle.pv_eval.proofs.Cases.{came-stops, setting-stays, before-stays}
use Rattle.pv_eval.proofs.Cases.{led-from}
use Rattle.pv_eval.proofs.Accessing.{access-then}
use Rattle.std.specs.Prelude.{if◌then◌else◌}
use Rattle.pv_eval.specs.States.{then_do}
use Rattle.pv_eval.specs.Sequenced.{node_value}
use Rattle.pv_eval.specs.Steps.{is_after}
use Rattle.pv_eval.specs.OfRuns.{stepping, writing}
use Rattle.pv_eval.proofs.Cases.{stays_both}
use Rattle.pv_eval.proofs.compound.increment.Goals as goal

pub returns-in-Err-clause-led : goal.returns-in-Err-clause-led
returns-in-Err-clause-led c = λ b out es hs hl call. (came-stops b call c.args.unit.now _ _ c.in-Err.e c.read.new.journal _ (c.in-Err.ensures.acted b out es hs hl))

pub returns-clause-led : goal.returns-clause-led
returns-clause-led c = λ b out es hs hl call.
    let u = c.args.unit.now in
    let s1 = c.in-Ok.ensures.stays in
    led-from b call u _ _ c.step_and_keep.result c.step_and_keep.new.journal (state_of c.step_and_keep.new.moment out es)
    ((access-then b u c.args.moment.now (λ b. access_to (lvalue b (type_of (expression_at u c.args.a))) (pointer_of (worth_of c.args.place)) false) _ c.args.journal.now c.read.new.journal _ hs c.in-Ok.value (λ j v s. then_do (stepping b c.args.line (type_of (expression_at u c.args.n)) c.args.o v s) (λ w s. writing b (lvalue b (type_of (expression_at u c.args.a))) c.args.line (worth_of c.args.place) w None j s (λ j w s. node_value j (if is_after c.args.o then v else w) s))) (c.in-Ok.ensures.acted b out es hs hl) c.in-Ok.ensures.noted))
    (c.step_and_keep.ensures.led b out es (setting-stays b u _ _ s1 hs) (before-stays _ _ out s1 hl) call)

pub returns-clause-stays : goal.returns-clause-stays
returns-clause-stays c = stays_both _ _ _ c.in-Ok.ensures.stays c.step_and_keep.ensures.stays
