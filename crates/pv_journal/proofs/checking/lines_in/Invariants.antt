use Rattle.std.proofs.Common.{length}
use Rattle.pv_journal.specs.Reading.{rows_or_wrong}
use Rattle.pv_journal.specs.Standing.{IsMore}
use Rattle.pv_journal.proofs.Walking.{GoesIn}
use Rattle.pv_journal.proofs.checking.lines_in.Given as goal

abbrev pub invariant-loop-text : goal.invariant-loop-text
invariant-loop-text l = record {
  goes : GoesIn l.names l.standing l.lines.items l.rest (rows_or_wrong l.bytes);
  more : IsMore l.fn.names l.names;
}

abbrev pub decreases-loop-text : goal.decreases-loop-text
decreases-loop-text l = length l.rest
