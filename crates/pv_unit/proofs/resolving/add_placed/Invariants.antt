use Rattle.pv_unit.proofs.Resolutions.{Placing}
use Rattle.pv_unit.proofs.resolving.add_placed.Given as goal

abbrev pub invariant-loop-f : goal.invariant-loop-f
invariant-loop-f l = Placing l.fn.into l.s.used l.f l.into
