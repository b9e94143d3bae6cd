use Rattle.pv_inst.proofs.Counts.{get_said}
use Rattle.pv_world.proofs.bound.said.Goals as goal

pub returns : goal.returns
returns c = rw (get_said c.args.instances.now.entries c.args.n) cc
