use Rattle.pv_eval.proofs.Scalars.{complete_test}
use Rattle.pv_eval.proofs.types.measured.Goals as goal

pub returns-in-Some-clause-test : goal.returns-in-Some-clause-test
returns-in-Some-clause-test c = complete_test c.args.types.now c.in-Some.x.l c.args.t c.in-Some.ensures.same c.in-Some.ensures.complete
