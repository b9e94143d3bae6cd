use Rattle.std.proofs.Common.{arith}
use Rattle.std.proofs.lemmas.Grind.{common_steps}
use Rattle.pv_eval.specs.Evaluation.{ev_by, ev}
use Rattle.pv_eval.proofs.Calls.{next-one, next-none}
use Rattle.pv_typed.specs.Tables.{nodes}
use Rattle.pv_typed.specs.NodeTrees.{expression_at, list_at}
use Rattle.pv_typed.specs.TypedTree.{form_of}
use Rattle.pv_eval.proofs.LibraryCalls.{child-there, call-more}
use Rattle.pv_eval.proofs.arguments.next_argument.Goals as goal

pub returns-then-i-children-clause-means : goal.returns-then-i-children-clause-means
returns-then-i-children-clause-means c = λ b call j s. next-one b call c.args.unit.now c.args.n c.args.line c.args.f c.len-i.result c.args.l c.args.got c.children-children.result.now c.children-children.ensures (grind (arith, common_steps)) j s c.requires.form c.requires.line c.if-i-children.true

pub returns-else-i-children-clause-means : goal.returns-else-i-children-clause-means
unfolding ev_by
returns-else-i-children-clause-means c = λ b call j s. next-none b call c.args.unit.now c.args.n c.args.line c.args.f c.len-i.result c.args.l c.args.got c.children-children.result.now c.children-children.ensures (grind (arith, common_steps)) j s (omega (arith, c.if-i-children.false))

pub returns-then-i-children-clause-fits : goal.returns-then-i-children-clause-fits
returns-then-i-children-clause-fits c =
    let u = c.args.unit.now in
    (child-there u c.args.l c.args.n c.len-i.result c.children-children.result.now c.children-children.ensures c.requires.list c.requires.there.0 c.if-i-children.true, (c.requires.there, call-more (form_of (expression_at u c.args.n)) c.args.f (nodes u) (list_at u c.args.l) c.children-children.result.now c.len-i.result _ c.children-children.ensures (grind (arith, common_steps)) c.requires.form c.if-i-children.true))
