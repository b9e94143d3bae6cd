use Rattle.std.proofs.Common.{arith}
use Rattle.pv_values.proofs.Shaped.{element_next}
use Rattle.pv_values.proofs.shapes.elements.Goals as goal

pub loop-i-preserved : goal.loop-i-preserved
loop-i-preserved c = element_next c.args.element c.args.bytes c.loop-i.i c.args.count _ _ _ (omega arith) c.in_ok-push.ensures.items c.loop-i.invariant
