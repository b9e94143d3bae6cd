use Rattle.std.proofs.Common.{refl}
use Rattle.pv_eval.specs.Plainly.{found_worth}
use Rattle.pv_eval.proofs.PlainComparisons.{pointer_tested}
use Rattle.pv_eval.proofs.plain_comparisons.is_set.Goals as goal

pub returns : goal.returns
returns c = pointer_tested c.args.world.now (found_worth c.args.v) c.in_ok-address.address _ c.in_ok-address.ensures refl
