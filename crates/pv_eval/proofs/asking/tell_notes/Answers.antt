use Rattle.std.proofs.Common.{◌∙◌, arith}
use Rattle.pv_eval.proofs.Replies.{next_noted}
use Rattle.pv_eval.proofs.asking.tell_notes.Goals as goal

pub loop-i-preserved : goal.loop-i-preserved
loop-i-preserved c = next_noted c.args.memory.now.table c.loop-i.told.items c.tell_note.new.told.items c.args.notes.now c.loop-i.i _ (omega (arith, c.loop-i-test.true)) c.in_ok-tell_note.ensures ∙ c.loop-i.invariant
