use Rattle.std.proofs.Common.{◌≡◌, ◌<◌, ℕ}
use Rattle.pv_seq.specs.Marks.{is_marked_at}
use Rattle.pv_seq.proofs.marks.unmark.Given as goal

abbrev pub invariant-loop-i : goal.invariant-loop-i
invariant-loop-i l = (byte n : ℕ) → n < l.number → is_marked_at l.marks byte n ≡ is_marked_at l.fn.marks byte n
