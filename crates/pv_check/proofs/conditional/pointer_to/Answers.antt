use Rattle.pv_check.proofs.Growth.{then_grows}
use Rattle.pv_check.proofs.conditional.pointer_to.Goals as goal

pub returns-then-constant-clause-grows : goal.returns-then-constant-clause-grows
returns-then-constant-clause-grows c = then_grows _ _ _ c.in-Ok.ensures.grows c.in-Ok-interned.ensures.grows
