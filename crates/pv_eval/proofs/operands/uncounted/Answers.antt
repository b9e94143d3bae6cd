use Rattle.std.proofs.Common.{◌≡◌, sym, ap, ◌∙◌}
use Rattle.std.specs.Prelude.{false}
use Rattle.pv_typed.specs.TypedTree.{form_of}
use Rattle.pv_typed.specs.Trees.{takes_turn}
use Rattle.pv_typed.specs.Tables.{nodes}
use Rattle.pv_typed.specs.NodeTrees.{expression_at}
use Rattle.pv_eval.specs.Steps.{takes}
use Rattle.pv_eval.specs.Ahead.{takes_of}
use Rattle.pv_eval.proofs.Cases.{waits-at-once, takes-form, if-some}
use Rattle.pv_eval.proofs.operands.uncounted.Goals as goal

pub returns-else-takes_turn-clause-some : goal.returns-else-takes_turn-clause-some
returns-else-takes_turn-clause-some c = λ b call fs s.
    let u = c.args.unit.now in
    let x = expression_at u c.args.n in
    let k : takes (takes_turn x) (form_of x) ≡ false =
    ap (takes (takes_turn x)) c.node-x.ensures.form
    ∙ takes-form u.lists (nodes u) (takes_turn x) c.node-x.result
    ∙ ap (λ t. takes_of t c.node-x.result) (sym c.counts.ensures)
    ∙ sym c.takes_turn.ensures ∙ c.if-takes_turn.false in
    if-some c.first_operand.result _ (λ a e. waits-at-once b call u c.args.n c.node-x.result fs s s c.node-x.ensures.form a (sym c.first_operand.ensures ∙ e) k)
