use Rattle.pv_replay.proofs.watched.Goals as goal

pub returns : goal.returns
returns g c = c.replay.ensures.answered
