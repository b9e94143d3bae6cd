use Rattle.pv_check.proofs.Growth.{then_grows}
use Rattle.pv_check.proofs.conditional.pointer_to_void.Goals as goal

pub returns-clause-known : goal.returns-clause-known
returns-clause-known c = c.in-Ok-pointer_to.ensures.known

pub returns-clause-grows : goal.returns-clause-grows
returns-clause-grows c = then_grows _ _ _ c.in-Ok.ensures.grows c.in-Ok-pointer_to.ensures.grows
