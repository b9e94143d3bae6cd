use Rattle.pv_unit.proofs.Resolutions.{Noting}
use Rattle.pv_unit.proofs.resolving.add_statics.Given as goal

abbrev pub invariant-loop-o : goal.invariant-loop-o
invariant-loop-o l = Noting l.fn.into l.outer.entities l.o l.into
