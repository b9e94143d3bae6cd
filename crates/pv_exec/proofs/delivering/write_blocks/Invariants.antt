use Rattle.std.proofs.Common.{◌≤◌, length, ◌-◌}
use Rattle.pv_exec.specs.Streaming.{FirstWritten}
use Rattle.pv_exec.proofs.delivering.write_blocks.Given as goal

abbrev pub invariant-writes : goal.invariant-writes
invariant-writes g l = record {
  written : FirstWritten l.at l.kept (g.O.Sink.written l.fn.out) (g.O.Sink.written l.out);
  later : g.O.Sink.faults l.fn.out ≤ g.O.Sink.faults l.out;
}

abbrev pub decreases-writes : goal.decreases-writes
decreases-writes g l = length l.kept - l.at
