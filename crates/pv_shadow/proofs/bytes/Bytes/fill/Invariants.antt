use Rattle.std.proofs.Common.{◌≡◌, ◌+◌, ◌-◌, ◌≤◌, replicate}
use Rattle.pv_shadow.specs.Bytes.{with_bytes_at}
use Rattle.pv_shadow.specs.Readings.{HasBytes}
use Rattle.pv_shadow.proofs.bytes.Bytes.fill.Given as goal

-- what is left to fill leaves what the whole leaves, and all has its bytes still
abbrev pub invariant-loop-i : goal.invariant-loop-i
invariant-loop-i l = record {
  rest : with_bytes_at l.self (l.base + l.i) (replicate (l.size - l.i) l.byte) ≡ with_bytes_at l.initial.self l.base (replicate l.size l.byte);
  there : HasBytes l.self l.base l.size;
  few : l.i ≤ l.size;
}

abbrev pub decreases-loop-i : goal.decreases-loop-i
decreases-loop-i l = l.size - l.i
