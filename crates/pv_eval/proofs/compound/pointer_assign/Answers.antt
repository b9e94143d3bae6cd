use Rattle.std.proofs.Common.{true, None, subst}
use Rattle.pv_seq.specs.Rivals.{top}
use Rattle.pv_typed.specs.TypedTree.{type_of}
use Rattle.pv_typed.specs.NodeTrees.{expression_at}
use Rattle.pv_world.specs.Coming.{worth_of}
use Rattle.pv_eval.specs.TypeForms.{lvalue, element_size}
use Rattle.pv_eval.specs.Moments.{state_of}
use Rattle.pv_eval.proofs.Cases.{came-stops, led-then, setting-stays, before-stays}
use Rattle.std.specs.Prelude.{Err}
use Rattle.pv_eval.specs.States.{then_do}
use Rattle.pv_eval.specs.Operations.{Moves, act}
use Rattle.pv_eval.specs.Sequenced.{node_value}
use Rattle.pv_eval.specs.OfRuns.{writing}
use Rattle.pv_eval.specs.Ahead.{Led}
use Rattle.pv_eval.proofs.Cases.{stays_both}
use Rattle.pv_eval.proofs.compound.pointer_assign.Goals as goal

pub returns-in-Err-clause-led : goal.returns-in-Err-clause-led
returns-in-Err-clause-led c = λ b out es hs hl call.
    let u = c.args.unit.now in
    subst (λ m. Led b call u (then_do (act b c.args.line (Moves m true (element_size b (type_of (expression_at u c.args.n))) (worth_of c.args.read.value) (worth_of c.args.w)) (state_of c.args.moment.now out es)) (λ v s. writing b (lvalue b (type_of (expression_at u c.args.a))) c.args.line (worth_of c.args.read.place) v None (top c.args.journal.now) s node_value)) (Err c.in-Err.e) c.args.journal.now (state_of c.shift.new.self out es)) c.minus.ensures
    (subst (λ t. Led b call u (then_do (act b c.args.line (Moves c.minus.result true (element_size b t) (worth_of c.args.read.value) (worth_of c.args.w)) (state_of c.args.moment.now out es)) (λ v s. writing b (lvalue b (type_of (expression_at u c.args.a))) c.args.line (worth_of c.args.read.place) v None (top c.args.journal.now) s node_value)) (Err c.in-Err.e) c.args.journal.now (state_of c.shift.new.self out es)) c.type_of-t.ensures.tree
    (came-stops b call u _ _ c.in-Err.e c.args.journal.now _ (c.in-Err.ensures.acted b out es hs hl)))

pub returns-clause-led : goal.returns-clause-led
returns-clause-led c = λ b out es hs hl call.
    let u = c.args.unit.now in
    let s1 = c.in-Ok.ensures.stays in
    subst (λ m. Led b call u (then_do (act b c.args.line (Moves m true (element_size b (type_of (expression_at u c.args.n))) (worth_of c.args.read.value) (worth_of c.args.w)) (state_of c.args.moment.now out es)) (λ v s. writing b (lvalue b (type_of (expression_at u c.args.a))) c.args.line (worth_of c.args.read.place) v None (top c.args.journal.now) s node_value)) c.write_back.result c.write_back.new.journal (state_of c.write_back.new.moment out es)) c.minus.ensures
    (subst (λ t. Led b call u (then_do (act b c.args.line (Moves c.minus.result true (element_size b t) (worth_of c.args.read.value) (worth_of c.args.w)) (state_of c.args.moment.now out es)) (λ v s. writing b (lvalue b (type_of (expression_at u c.args.a))) c.args.line (worth_of c.args.read.place) v None (top c.args.journal.now) s node_value)) c.write_back.result c.write_back.new.journal (state_of c.write_back.new.moment out es)) c.type_of-t.ensures.tree
    (led-then b call u _ _ _ _ c.write_back.result c.write_back.new.journal _ (c.in-Ok.ensures.acted b out es hs hl)
    (c.write_back.ensures.led b out es (setting-stays b u _ _ s1 hs) (before-stays _ _ out s1 hl) call)))

pub returns-clause-stays : goal.returns-clause-stays
returns-clause-stays c = stays_both _ _ _ c.in-Ok.ensures.stays c.write_back.ensures.stays
