use Rattle.std.proofs.Common.{sym, ◌∷◌, arith}
use Rattle.std.proofs.lemmas.Grind.{common_steps}
use Rattle.pv_seq.specs.Sequencing.{sequence_point}
use Rattle.pv_seq.specs.Rivals.{top}
use Rattle.pv_typed.specs.Tables.{nodes}
use Rattle.pv_typed.specs.NodeTrees.{expression_at, list_at}
use Rattle.pv_eval.specs.Evaluation.{ev_by, ev}
use Rattle.pv_eval.specs.Moments.{state_of}
use Rattle.pv_eval.proofs.Cases.{came-given, led-from}
use Rattle.pv_eval.proofs.LibraryCalls.{next-asked, all-asked}
use Rattle.pv_typed.specs.TypedTree.{form_of}
use Rattle.pv_eval.proofs.LibraryCalls.{child-there, library-more}
use Rattle.pv_eval.proofs.library.next_or_ask.Goals as goal

pub returns-then-i-children-clause-led : goal.returns-then-i-children-clause-led
returns-then-i-children-clause-led c = λ b out es hs hl call. sym (next-asked b call c.args.unit.now c.args.n c.args.line c.len-i.result c.args.f c.args.l c.args.got c.children-children.result.now c.children-children.ensures (grind (arith, common_steps)) (top c.args.journal.now) (state_of c.args.moment.now out es) c.requires.form c.requires.line c.if-i-children.true)

pub returns-else-i-children-clause-led : goal.returns-else-i-children-clause-led
unfolding ev_by
returns-else-i-children-clause-led c = λ b out es hs hl call.
    let u = c.args.unit.now in
    led-from b call u _ _ c.give.result c.sequence_point.new.self _
    (all-asked b call u c.args.n c.args.line c.len-i.result c.args.f c.args.l c.args.got c.children-children.result.now c.children-children.ensures (grind (arith, common_steps)) (top c.args.journal.now) (state_of c.args.moment.now out es) (omega (arith, c.if-i-children.false)))
    (rw (c.give.ensures, c.sequence_point.ensures) (came-given b call u c.ask.result _ (sequence_point (top c.args.journal.now) ∷ _) _ (c.ask.ensures.acted b out es hs hl)))

pub returns-then-i-children-clause-fits : goal.returns-then-i-children-clause-fits
returns-then-i-children-clause-fits c =
    let u = c.args.unit.now in
    (child-there u c.args.l c.args.n c.len-i.result c.children-children.result.now c.children-children.ensures c.requires.list c.requires.there.0 c.if-i-children.true, (c.requires.there, library-more (form_of (expression_at u c.args.n)) c.args.f (nodes u) (list_at u c.args.l) c.children-children.result.now c.len-i.result _ c.children-children.ensures (grind (arith, common_steps)) c.requires.form c.if-i-children.true))
