use Rattle.std.proofs.Common.{◌∷◌, sym, ap, ◌∙◌, subst, length}
use Rattle.pv_seq.specs.Sequencing.{open_against}
use Rattle.pv_typed.specs.TypedTree.{type_of}
use Rattle.pv_typed.specs.NodeTrees.{expression_at}
use Rattle.pv_typed.specs.Nodes.{form_in}
use Rattle.pv_eval.specs.OfRuns.{ev_form}
use Rattle.pv_typed.specs.Tables.{nodes}
use Rattle.pv_eval.specs.Moments.{state_of, Follows}
use Rattle.pv_eval.specs.Ahead.{Led}
use Rattle.pv_eval.proofs.Cases.{begun-operand, begun-leaf, led-from, setting-ticked}
use Rattle.pv_eval.proofs.beginning.begin.Goals as goal

pub returns-in-Some-clause-led : goal.returns-in-Some-clause-led
returns-in-Some-clause-led c = λ b out es hs hl call j js lt.
    begun-operand b call c.args.unit.now c.args.n c.node-x.result j.foes (state_of c.args.moment.now out es) (state_of c.tick.new.self out es) c.node-x.ensures.form c.in-Some.a (sym c.first_operand.ensures ∙ c.in-Some.is) c.requires.counts lt (ap (λ m. state_of m out es) c.tick.ensures)

pub returns-in-None-clause-led : goal.returns-in-None-clause-led
returns-in-None-clause-led c = λ b out es hs hl call j js lt.
    let u = c.args.unit.now in
    let x = expression_at u c.args.n in
    led-from b call u _ _ c.begin_leaf.result _ _
    (begun-leaf b call u c.args.n c.node-x.result j.foes (state_of c.args.moment.now out es) (state_of c.tick.new.self out es) c.node-x.ensures.form c.requires.counts lt (ap (λ m. state_of m out es) c.tick.ensures))
    (subst (λ l. Led b call u (ev_form b call (type_of x) l (form_in u.lists (nodes u) c.node-x.result) j.foes (state_of c.tick.new.self out es)) c.begin_leaf.result (open_against j.foes ∷ js) (state_of c.begin_leaf.new.moment out es)) (c.line_of.ensures.expression c.requires.there)
    (c.begin_leaf.ensures.led b out es (setting-ticked b u c.args.moment.now c.tick.new.self c.tick.ensures hs) (subst (λ m. Follows m (length out)) (sym c.tick.ensures) hl) call (type_of x) j js))

pub returns-in-Some-clause-total : goal.returns-in-Some-clause-total
returns-in-Some-clause-total c = λ n h. subst (λ m. Follows m n) (sym c.tick.ensures) h

pub returns-in-None-clause-total : goal.returns-in-None-clause-total
returns-in-None-clause-total c = λ n h. c.begin_leaf.ensures.stays.total n (subst (λ m. Follows m n) (sym c.tick.ensures) h)
