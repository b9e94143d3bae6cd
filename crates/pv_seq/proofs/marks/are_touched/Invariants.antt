use Rattle.pv_seq.specs.Marks.{NoneMarked}
use Rattle.pv_seq.proofs.marks.are_touched.Given as goal

abbrev pub invariant-loop-i : goal.invariant-loop-i
invariant-loop-i l = NoneMarked l.marks l.place l.i l.start l.end
