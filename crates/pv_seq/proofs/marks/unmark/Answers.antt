use Rattle.std.proofs.Common.{◌+◌}
use Rattle.std.proofs.Common.{◌∙◌}
use Rattle.pv_seq.proofs.Marking.{unmark_kept}
use Rattle.pv_seq.proofs.marks.unmark.Goals as goal

pub loop-i-preserved : goal.loop-i-preserved
loop-i-preserved c = λ byte n lt. unmark_kept c.loop-i.marks c.remove.new.self (c.args.place + c.loop-i.i) c.args.number c.remove.ensures.updates byte n lt ∙ c.loop-i.invariant byte n lt
