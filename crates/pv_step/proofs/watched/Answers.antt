use Rattle.pv_step.proofs.watched.Goals as goal

pub returns : goal.returns
returns g c = c.step.ensures.answered
