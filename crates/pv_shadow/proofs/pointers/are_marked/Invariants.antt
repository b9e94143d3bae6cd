use Rattle.std.proofs.Common.{◌≡◌, drop}
use Rattle.pv_shadow.specs.Readings.{are_marked}
use Rattle.pv_shadow.proofs.pointers.are_marked.Given as goal

abbrev pub invariant-loop-i : goal.invariant-loop-i
invariant-loop-i l = are_marked (drop l.i l.bytes) l.t l.i ≡ are_marked l.bytes l.t 0
