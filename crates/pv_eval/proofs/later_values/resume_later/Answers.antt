use Rattle.pv_eval.proofs.Cases.{came-given}
use Rattle.pv_eval.proofs.later_values.resume_later.Goals as goal

pub returns-in-LogicalAnd-clause-led : goal.returns-in-LogicalAnd-clause-led
returns-in-LogicalAnd-clause-led c = λ b out es hs hl call js. rw (c.in-LogicalAnd.is, ← (c.line_of.ensures.expression c.requires.there)) (c.tested.ensures.led b out es hs hl call js)

pub returns-in-LogicalOr-clause-led : goal.returns-in-LogicalOr-clause-led
returns-in-LogicalOr-clause-led c = λ b out es hs hl call js. rw (c.in-LogicalOr.is, ← (c.line_of-in-LogicalOr.ensures.expression c.requires.there)) (c.tested-in-LogicalOr.ensures.led b out es hs hl call js)

pub returns-then-side-clause-led : goal.returns-then-side-clause-led
returns-then-side-clause-led c = λ b out es hs hl call js. rw (c.in-Conditional.is, c.if-side.true, c.give.ensures) (came-given b call c.args.unit.now c.convert.result _ js _ (c.convert.ensures.came b out es hs hl))

pub returns-else-side-clause-led : goal.returns-else-side-clause-led
returns-else-side-clause-led c = λ b out es hs hl call js. rw (c.in-Conditional.is, c.if-side.false, c.give-else-side.ensures) (came-given b call c.args.unit.now c.convert-else-side.result _ js _ (c.convert-else-side.ensures.came b out es hs hl))
