use Rattle.std.proofs.Common.{true, sym, ap, ◌∙◌}
use Rattle.pv_seq.specs.Rivals.{top}
use Rattle.pv_typed.specs.TypedTree.{type_of}
use Rattle.pv_typed.specs.NodeTrees.{expression_at}
use Rattle.pv_world.specs.Worths.{pointer_of}
use Rattle.pv_world.specs.Coming.{worth_of}
use Rattle.pv_eval.specs.TypeForms.{lvalue}
use Rattle.pv_eval.specs.Accesses.{access_to}
use Rattle.pv_eval.specs.Moments.{state_of}
use Rattle.pv_eval.proofs.Cases.{came-stops}
use Rattle.std.specs.Prelude.{if◌then◌else◌}
use Rattle.pv_eval.specs.Sequenced.{node_value}
use Rattle.pv_eval.specs.Steps.{is_after}
use Rattle.pv_eval.proofs.Accessing.{access-then}
use Rattle.pv_eval.proofs.compound.write_step.Goals as goal

pub returns-then-after-clause-led : goal.returns-then-after-clause-led
returns-then-after-clause-led c = λ b out es hs hl call.
    let u = c.args.unit.now in
    (access-then b u c.args.moment.now (λ b. access_to (lvalue b (type_of (expression_at u c.args.a))) (pointer_of (worth_of c.args.place)) true) _ c.args.journal.now c.store.new.journal _ hs c.in-Ok.w (λ j w s. node_value j (if is_after c.args.o then worth_of c.args.v else w) s) (c.in-Ok.ensures.acted b out es hs hl) c.in-Ok.ensures.noted
    ∙ ap (λ t. node_value (top c.store.new.journal) (if t then worth_of c.args.v else worth_of c.in-Ok.w) (state_of c.store.new.moment out es)) (sym c.after.ensures ∙ c.if-after.true))

pub returns-else-after-clause-led : goal.returns-else-after-clause-led
returns-else-after-clause-led c = λ b out es hs hl call.
    let u = c.args.unit.now in
    (access-then b u c.args.moment.now (λ b. access_to (lvalue b (type_of (expression_at u c.args.a))) (pointer_of (worth_of c.args.place)) true) _ c.args.journal.now c.store.new.journal _ hs c.in-Ok.w (λ j w s. node_value j (if is_after c.args.o then worth_of c.args.v else w) s) (c.in-Ok.ensures.acted b out es hs hl) c.in-Ok.ensures.noted
    ∙ ap (λ t. node_value (top c.store.new.journal) (if t then worth_of c.args.v else worth_of c.in-Ok.w) (state_of c.store.new.moment out es)) (sym c.after.ensures ∙ c.if-after.false))

pub returns-in-Err-clause-led : goal.returns-in-Err-clause-led
returns-in-Err-clause-led c = λ b out es hs hl call. (came-stops b call c.args.unit.now _ _ c.in-Err.e c.store.new.journal _ (c.in-Err.ensures.acted b out es hs hl))
