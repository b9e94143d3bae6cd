use Rattle.std.proofs.Common.{refl, take, ◌+◌, subst, sym}
use Rattle.pv_shown.proofs.Parting.{AllEnded, ended_more, ended_all}
use Rattle.pv_shown.proofs.blocks.end_of.Goals as goal

pub loop-x-init : goal.loop-x-init
loop-x-init c = λ n le. refl

pub loop-x-preserved : goal.loop-x-preserved
loop-x-preserved c =
    subst (λ m. AllEnded m (take (c.loop-x.x-index + 1) c.args.block.now)) (sym c.later-last.ensures)
    (ended_more c.args.block.now c.loop-x.x-index _ c.loop-x.last c.in-Some.turn c.loop-x-test.true c.in-Some.is c.loop-x.invariant)

pub returns : goal.returns
returns c = ended_all c.args.block.now c.loop-x.x-index c.loop-x.last c.loop-x-test.false c.loop-x.invariant
