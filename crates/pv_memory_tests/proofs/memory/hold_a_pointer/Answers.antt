use Rattle.pv_object.proofs.Later.{reach_later}
use Rattle.pv_memory_tests.proofs.memory.hold_a_pointer.Goals as goal

pub copy-requires-clause-target : goal.copy-requires-clause-target
copy-requires-clause-target g c = reach_later _ _ c.reach-to.result 8 c.reach-from.ensures.later c.reach-to.ensures.within
