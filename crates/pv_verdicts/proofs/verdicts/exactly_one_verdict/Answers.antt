use Rattle.pv_verdicts.proofs.ExactlyOne.{some-verdict, one-verdict}
use Rattle.pv_verdicts.proofs.verdicts.exactly_one_verdict.Goals as goal

pub returns-clause-some : goal.returns-clause-some
returns-clause-some c = some-verdict

pub returns-clause-one : goal.returns-clause-one
returns-clause-one c = one-verdict
