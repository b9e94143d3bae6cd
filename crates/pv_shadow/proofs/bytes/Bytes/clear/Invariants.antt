use Rattle.std.proofs.Common.{◌≡◌, ◌+◌, ◌-◌, ◌≤◌}
use Rattle.pv_shadow.specs.Bytes.{without_bytes}
use Rattle.pv_shadow.proofs.bytes.Bytes.clear.Given as goal

-- what is left to clear leaves what the whole leaves
abbrev pub invariant-loop-i : goal.invariant-loop-i
invariant-loop-i l = record {
  rest : without_bytes l.self (l.base + l.i) (l.size - l.i) ≡ without_bytes l.initial.self l.base l.size;
  few : l.i ≤ l.size;
}

abbrev pub decreases-loop-i : goal.decreases-loop-i
decreases-loop-i l = l.size - l.i
