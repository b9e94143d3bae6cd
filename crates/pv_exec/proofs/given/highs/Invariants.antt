use Rattle.std.proofs.Common.{◌≡◌, ◌≤◌, ◌-◌}
use Rattle.std.specs.Prelude.{length, take, map}
use Rattle.pv_exec.specs.Sided.{is_high}
use Rattle.pv_exec.proofs.given.highs.Given as goal

abbrev pub invariant-sides : goal.invariant-sides
invariant-sides l = record {
  high : l.high.items ≡ map is_high (take l.i l.sides);
  within : l.i ≤ length l.sides;
}

abbrev pub decreases-sides : goal.decreases-sides
decreases-sides l = length l.sides - l.i
