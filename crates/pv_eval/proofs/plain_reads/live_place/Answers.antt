use Rattle.pv_eval.proofs.PlainPointers.{looked_live}
use Rattle.pv_eval.proofs.plain_reads.live_place.Goals as goal

pub returns-then-is_live-clause-looked : goal.returns-then-is_live-clause-looked
returns-then-is_live-clause-looked c =
    let yes = c.if-is_live.true in
    looked_live c.args.world.now.memory.table c.args.inst c.args.address (c.is_live.ensures.known yes) (c.is_live.ensures.used yes)
