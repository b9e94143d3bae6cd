use Rattle.std.proofs.Common.{◌≡◌, ◌≤◌, ◌-◌}
use Rattle.std.specs.Prelude.{take, map}
use Rattle.pv_eval.specs.Constants.{is_high_pair}
use Rattle.pv_exec.specs.Sided.{side_of}
use Rattle.pv_exec.proofs.sides.sides_of.Given as goal

abbrev pub invariant-pairs : goal.invariant-pairs
invariant-pairs l = record {
  sides : l.sides.items ≡ map side_of (map is_high_pair (take l.k l.machine.moment.world.memory.table.pairs));
  within : l.k ≤ l.count;
}

abbrev pub decreases-pairs : goal.decreases-pairs
decreases-pairs l = l.count - l.k
