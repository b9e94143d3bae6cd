use Rattle.pv_eval.proofs.machine.Machine.give_back.Goals as goal

pub returns : goal.returns
returns c = c.self.view_is
