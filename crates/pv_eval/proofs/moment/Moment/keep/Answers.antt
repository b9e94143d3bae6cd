use Rattle.pv_eval.proofs.moment.Moment.keep.Goals as goal

pub returns : goal.returns
returns c = c.self.view_is
