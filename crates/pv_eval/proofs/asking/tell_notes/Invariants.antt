use Rattle.std.proofs.Common.{◌≡◌, ◌++◌, drop}
use Rattle.pv_eval.specs.LibraryParts.{all_noted}
use Rattle.pv_eval.proofs.asking.tell_notes.Given as goal

-- what was told, with what is left
abbrev pub invariant-loop-i : goal.invariant-loop-i
invariant-loop-i l = l.told.items ++ all_noted l.memory.table (drop l.i l.notes) ≡ l.initial.told.items ++ all_noted l.memory.table l.notes
