use Rattle.std.proofs.Common.{sym}
use Rattle.pv_world.proofs.bound.last_said.Goals as goal

pub returns-in_default : goal.returns-in_default
returns-in_default c = sym c.in_default.ensures.none

pub returns : goal.returns
returns c = sym c.in-Some.ensures.said
