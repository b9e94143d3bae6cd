use Rattle.std.proofs.Common.{length, refl, sym, ◌∙◌, arith}
use Rattle.pv_lex.proofs.Fronts.{begins_on, begins_not, begins_short, begins_end}
use Rattle.pv_lex.proofs.tables.begins.Goals as goal

pub loop-n-init : goal.loop-n-init
loop-n-init c = refl

pub returns-then-n-text : goal.returns-then-n-text
returns-then-n-text c = sym (c.loop-n.invariant ∙ begins_short c.args.text.now c.args.front.now c.loop-n.n 0 (omega arith) (omega arith))

pub returns-then-not-are_same : goal.returns-then-not-are_same
returns-then-not-are_same c =
    sym (c.loop-n.invariant ∙ begins_not c.args.text.now c.args.front.now c.loop-n.n _ _ (omega arith) (omega arith) (sym c.are_same.ensures ∙ c.if-not-are_same.true))

pub loop-n-preserved : goal.loop-n-preserved
loop-n-preserved c =
    c.loop-n.invariant ∙ begins_on c.args.text.now c.args.front.now c.loop-n.n _ _ (omega arith) (omega arith) (sym c.are_same.ensures ∙ c.if-not-are_same.false)

pub returns : goal.returns
returns c = sym (c.loop-n.invariant ∙ begins_end c.args.text.now c.args.front.now c.loop-n.n (omega arith))
