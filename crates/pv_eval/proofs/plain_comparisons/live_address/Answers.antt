use Rattle.pv_eval.proofs.PlainPointers.{looked_live}
use Rattle.pv_eval.proofs.plain_comparisons.live_address.Goals as goal

pub returns-then-is_live : goal.returns-then-is_live
returns-then-is_live c =
    let yes = c.if-is_live.true in
    looked_live c.args.world.now.memory.table c.args.p.inst c.args.p.address (c.is_live.ensures.known yes) (c.is_live.ensures.used yes)
