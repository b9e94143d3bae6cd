use Rattle.std.proofs.Common.{◌≡◌, ◌+◌, ◌-◌, ◌≤◌}
use Rattle.pv_libc.specs.Blocks.{difference}
use Rattle.pv_libc.specs.Ahead.{sign_or}
use Rattle.pv_libc.proofs.Rows.{ArePlainFrom, row_at}
use Rattle.pv_libc.proofs.known.plain_difference.Given as goal

-- what was looked at is plain; what decides, or else the rows that are left, is what the whole rows come to
abbrev pub invariant-loop-i : goal.invariant-loop-i
invariant-loop-i l = record {
  few : l.i ≤ l.n;
  one : ArePlainFrom l.memory.bytes l.a l.i;
  other : ArePlainFrom l.memory.bytes l.b l.i;
  same : sign_or l.decided.left l.decided.right (difference (row_at l.memory.bytes (l.a + l.i) (l.n - l.i)) (row_at l.memory.bytes (l.b + l.i) (l.n - l.i))) ≡ difference (row_at l.memory.bytes l.a l.n) (row_at l.memory.bytes l.b l.n);
}

abbrev pub decreases-loop-i : goal.decreases-loop-i
decreases-loop-i l = l.n - l.i
