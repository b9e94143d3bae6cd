use Rattle.pv_eval.specs.Plainly.{found_worth}
use Rattle.pv_eval.proofs.PlainComparisons.{equality_some}
use Rattle.pv_eval.proofs.plain_comparisons.equality.Goals as goal

pub returns : goal.returns
returns c = λ t.
    equality_some c.args.unit.now c.args.world.now t c.args.op c.unequal.result c.args.a c.args.d (found_worth c.args.first) (found_worth c.args.second) (found_worth c.in_ok-v.v) (found_worth c.in_ok-x.x) c.compared.result
    c.in_ok-v.ensures c.in_ok-x.ensures c.unequal.ensures c.compared.ensures
