use Rattle.std.specs.Prelude.{true}
use Rattle.pv_typed.specs.TypedTree.{type_of}
use Rattle.pv_typed.specs.NodeTrees.{expression_at}
use Rattle.pv_world.specs.Worths.{pointer_of}
use Rattle.pv_eval.specs.TypeForms.{lvalue}
use Rattle.pv_eval.specs.Accesses.{access_to}
use Rattle.pv_world.specs.Coming.{worth_of}
use Rattle.pv_eval.proofs.Cases.{came-stops, access-given, access-below, access-some, led-then, setting-stays, before-stays}
use Rattle.pv_eval.proofs.Cases.{stays_both}
use Rattle.pv_eval.proofs.second_values.assign.Goals as goal

pub returns-in-Err-clause-led : goal.returns-in-Err-clause-led
returns-in-Err-clause-led c = λ b out es hs hl call. came-stops b call c.args.unit.now _ _ c.in-Err.e c.args.journal.now _ (c.in-Err.ensures.came b out es hs hl)

pub returns-clause-led : goal.returns-clause-led
returns-clause-led c = λ b out es hs hl call.
    let u = c.args.unit.now in
    let s1 = c.in-Ok.ensures.stays in
    let hs1 = setting-stays b u _ _ s1 hs in
    led-then b call u _ _ _ _ _ c.write.new.journal _ (c.in-Ok.ensures.came b out es hs hl)
    (rw (c.give.ensures, ← c.source-from.ensures)
    (access-given b call u _ (λ b. access_to (lvalue b (type_of (expression_at u c.args.a))) (pointer_of (worth_of c.args.place)) true) c.write.result _ c.args.journal.now c.write.new.journal _ hs1 (c.write.ensures.acted b out es hs1 (before-stays _ _ out s1 hl)) c.write.ensures.noted))

pub returns-clause-below : goal.returns-clause-below
returns-clause-below c = rw c.give.ensures (access-below c.args.unit.now _ _ c.write.result c.args.journal.now c.write.new.journal c.write.ensures.noted)

pub returns-clause-some : goal.returns-clause-some
returns-clause-some c = rw c.give.ensures (access-some c.args.unit.now _ _ c.write.result c.args.journal.now c.write.new.journal c.write.ensures.noted)

pub returns-clause-stays : goal.returns-clause-stays
returns-clause-stays c = stays_both _ _ _ c.in-Ok.ensures.stays c.write.ensures.stays
