use Rattle.std.proofs.Common.{◌≡◌, drop}
use Rattle.pv_shadow.specs.Readings.{are_nameless}
use Rattle.pv_shadow.proofs.pointers.are_nameless.Given as goal

abbrev pub invariant-loop-i : goal.invariant-loop-i
invariant-loop-i l = are_nameless (drop l.i l.bytes) ≡ are_nameless l.bytes
