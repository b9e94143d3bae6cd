use Rattle.pv_eval.proofs.Scalars.{complete_align}
use Rattle.pv_eval.proofs.types.align_of.Goals as goal

pub returns-in-Some-clause-align : goal.returns-in-Some-clause-align
returns-in-Some-clause-align c = complete_align c.args.types.now c.in-Some.x.l c.args.t c.in-Some.x.align c.in-Some.ensures.same c.in-Some.ensures.complete c.in-Some.ensures.align
