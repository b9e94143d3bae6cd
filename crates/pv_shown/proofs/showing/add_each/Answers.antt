use Rattle.std.proofs.Common.{refl}
use Rattle.pv_shown.proofs.Walks.{live_lines, live_next, walk_ends}
use Rattle.pv_shown.proofs.showing.add_each.Goals as goal

pub loop-x-preserved : goal.loop-x-preserved
loop-x-preserved c =
    live_next c.args.names.now c.args.n c.args.lives.now c.loop-x.x-index _ c.loop-x.text.items c.add_if_live.new.text.items _ c.loop-x-test.true c.in_ok-add_if_live.ensures c.loop-x.invariant

pub returns : goal.returns
returns c = walk_ends (live_lines c.args.names.now c.args.n) c.args.lives.now c.loop-x.x-index c.loop-x.text.items _ c.loop-x-test.false refl c.loop-x.invariant
