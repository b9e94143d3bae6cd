use Rattle.pv_eval.proofs.compound.resume_both.Goals as goal

pub returns-in-CompoundAssign-clause-led : goal.returns-in-CompoundAssign-clause-led
returns-in-CompoundAssign-clause-led c = λ b out es hs hl call. rw (c.in-CompoundAssign.is, ← (c.line_of-line.ensures.expression c.requires.there)) (c.compound.ensures.led b out es hs hl call)

pub returns-in-PointerAssign-clause-led : goal.returns-in-PointerAssign-clause-led
returns-in-PointerAssign-clause-led c = λ b out es hs hl call. rw (c.in-PointerAssign.is, ← (c.line_of-line.ensures.expression c.requires.there)) (c.pointer_assign.ensures.led b out es hs hl call)
