use Rattle.pv_check.proofs.Growth.{then_grows}
use Rattle.pv_check.proofs.parameters.parameter_type.Goals as goal

pub returns-clause-grows : goal.returns-clause-grows
returns-clause-grows c = then_grows _ _ _ c.in-Ok.ensures.grows c.in-Ok-adjusted.ensures.grows
