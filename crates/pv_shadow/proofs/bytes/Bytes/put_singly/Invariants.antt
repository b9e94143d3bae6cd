use Rattle.std.proofs.Common.{◌≡◌, ◌+◌, ◌-◌}
use Rattle.pv_shadow.specs.Bytes.{with_bytes_at}
use Rattle.pv_shadow.specs.Readings.{HasBytes}
use Rattle.pv_shadow.specs.Whole.{little_endian, number_bytes}
use Rattle.pv_shadow.proofs.bytes.Bytes.put_singly.Given as goal

-- what is left to write leaves what the whole leaves, and it has its addresses still
abbrev pub invariant-loop-k : goal.invariant-loop-k
invariant-loop-k l = record {
  left : with_bytes_at l.self (l.a + l.k) (number_bytes l.mark l.k (little_endian (l.n - l.k) l.rest)) ≡ with_bytes_at l.initial.self l.a (number_bytes l.mark 0 (little_endian l.n l.number));
  there : HasBytes l.self l.a l.n;
}
