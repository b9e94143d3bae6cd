use Rattle.pv_unit.proofs.GivenRows.{Storing}
use Rattle.pv_unit.proofs.giving.stored.Given as goal

abbrev pub invariant-loop-x : goal.invariant-loop-x
invariant-loop-x l = Storing l.fn.into l.o l.stores l.x-index l.into
