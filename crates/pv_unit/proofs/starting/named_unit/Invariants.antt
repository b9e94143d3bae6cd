use Rattle.pv_unit.proofs.Beginnings.{Naming}
use Rattle.pv_unit.proofs.starting.named_unit.Given as goal

abbrev pub invariant-loop-n : goal.invariant-loop-n
invariant-loop-n l = Naming l.t l.n l.into
