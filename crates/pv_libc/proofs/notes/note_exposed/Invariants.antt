use Rattle.std.proofs.Common.{◌≡◌, length}
use Rattle.pv_object.specs.Later.{IsLater}
use Rattle.pv_libc.specs.Steps.{with_exposures, with_notes}
use Rattle.pv_libc.proofs.notes.note_exposed.Given as goal

-- what waits still, noted, is what waited at the start, noted
abbrev pub invariant-loop-i : goal.invariant-loop-i
invariant-loop-i l = record {
  same : with_exposures (with_notes l.memory l.notes.items) ≡ with_exposures (with_notes l.initial.memory l.initial.notes.items);
  later : IsLater l.initial.memory.table l.memory.table;
}

abbrev pub decreases-loop-i : goal.decreases-loop-i
decreases-loop-i l = length l.memory.table.pending
