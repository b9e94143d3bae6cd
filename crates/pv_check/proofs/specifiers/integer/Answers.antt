use Rattle.pv_check.proofs.Growth.{same_grows}
use Rattle.pv_check.proofs.specifiers.integer.Goals as goal

pub returns-in-Some-clause-grows : goal.returns-in-Some-clause-grows
returns-in-Some-clause-grows c = same_grows c.args.types.now
