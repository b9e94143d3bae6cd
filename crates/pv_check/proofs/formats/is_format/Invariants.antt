use Rattle.std.proofs.Common.{◌≡◌, ◌-◌, ◌≤◌, length, drop}
use Rattle.pv_check.specs.PrintfFormats.{is_format}
use Rattle.pv_check.specs.Passing.{reads}
use Rattle.pv_check.proofs.formats.is_format.Given as goal

abbrev pub invariant-loop-i : goal.invariant-loop-i
invariant-loop-i l = (l.i ≤ length l.bytes) × (reads l.place (drop l.i l.bytes) ≡ is_format l.bytes)

abbrev pub decreases-loop-i : goal.decreases-loop-i
decreases-loop-i l = length l.bytes - l.i
