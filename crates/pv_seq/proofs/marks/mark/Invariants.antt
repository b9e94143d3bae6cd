use Rattle.pv_seq.specs.Marks.{AllMarked, KeepsMarks}
use Rattle.pv_seq.proofs.marks.mark.Given as goal

abbrev pub invariant-loop-i : goal.invariant-loop-i
invariant-loop-i l = KeepsMarks l.fn.marks l.marks × AllMarked l.marks l.place l.i l.number
