use Rattle.std.proofs.Common.{true}
use Rattle.pv_typed.specs.TypedTree.{type_of}
use Rattle.pv_typed.specs.NodeTrees.{expression_at}
use Rattle.pv_world.specs.Worths.{pointer_of}
use Rattle.pv_world.specs.Coming.{worth_of}
use Rattle.pv_eval.specs.TypeForms.{lvalue}
use Rattle.pv_eval.specs.Accesses.{access_to}
use Rattle.pv_eval.proofs.Cases.{access-given, access-below, access-some}
use Rattle.pv_eval.proofs.compound.write_back.Goals as goal

pub returns-clause-led : goal.returns-clause-led
returns-clause-led c = λ b out es hs hl call.
    let u = c.args.unit.now in
    rw c.give.ensures
    (access-given b call u _ (λ b. access_to (lvalue b (type_of (expression_at u c.args.a))) (pointer_of (worth_of c.args.place)) true) c.write.result _ c.args.journal.now c.write.new.journal _ hs (c.write.ensures.acted b out es hs hl) c.write.ensures.noted)

pub returns-clause-below : goal.returns-clause-below
returns-clause-below c = rw c.give.ensures (access-below c.args.unit.now _ _ c.write.result c.args.journal.now c.write.new.journal c.write.ensures.noted)

pub returns-clause-some : goal.returns-clause-some
returns-clause-some c = rw c.give.ensures (access-some c.args.unit.now _ _ c.write.result c.args.journal.now c.write.new.journal c.write.ensures.noted)
