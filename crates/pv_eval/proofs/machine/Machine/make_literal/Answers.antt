use Rattle.pv_eval.proofs.machine.Machine.make_literal.Goals as goal

pub returns-clause-made : goal.returns-clause-made
returns-clause-made c = rw (← c.self.view_is) c.make_literal.ensures.made
