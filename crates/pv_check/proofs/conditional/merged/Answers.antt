use Rattle.pv_check.proofs.Growth.{then_grows}
use Rattle.pv_check.proofs.conditional.merged.Goals as goal

pub returns-then-compatible-clause-grows : goal.returns-then-compatible-clause-grows
returns-then-compatible-clause-grows c = then_grows _ _ _ c.in-Ok.ensures.grows c.in-Ok-pointer_to.ensures.grows
