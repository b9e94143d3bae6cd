use Rattle.std.proofs.Common.{arith}
use Rattle.pv_typed.specs.Tables.{whole_unit}
use Rattle.pv_values.specs.Standing.{own_text}
use Rattle.pv_values.proofs.Adding.{texts_next}
use Rattle.pv_values.proofs.objects.add_objects.Goals as goal

pub loop-n-preserved : goal.loop-n-preserved
loop-n-preserved c = texts_next (own_text (whole_unit c.args.u.now) c.args.world.now c.args.k) c.loop-n.n c.objects-count.result _ _ _ (omega arith) c.in_ok-add_own.ensures c.loop-n.invariant
