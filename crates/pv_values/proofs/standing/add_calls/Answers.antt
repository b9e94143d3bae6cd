use Rattle.std.proofs.Common.{arith}
use Rattle.pv_typed.specs.Tables.{whole_unit}
use Rattle.pv_values.specs.Standing.{call_text}
use Rattle.pv_values.proofs.Adding.{texts_next}
use Rattle.pv_values.proofs.standing.add_calls.Goals as goal

pub loop-k-preserved : goal.loop-k-preserved
loop-k-preserved c =
    texts_next (call_text (whole_unit c.args.u.now) c.args.world.now c.args.all) c.loop-k.k c.shown_of-count.result _ _ _ (omega arith) c.in_ok-add_call.ensures c.loop-k.invariant
