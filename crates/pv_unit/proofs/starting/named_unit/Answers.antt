use Rattle.pv_unit.proofs.Beginnings.{naming_next}
use Rattle.pv_unit.proofs.starting.named_unit.Goals as goal

pub loop-n-preserved : goal.loop-n-preserved
loop-n-preserved c =
    naming_next c.args.t.now c.loop-n.n c.loop-n.into c.add_name.new.into c.name.result.now c.loop-n.invariant c.name.ensures c.in_ok-add_name.ensures.names c.in_ok-add_name.ensures.types c.in_ok-add_name.ensures.grown
