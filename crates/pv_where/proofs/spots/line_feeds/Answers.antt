use Rattle.std.proofs.Common.{arith}
use Rattle.pv_where.proofs.Ending.{feeds_more, feeds_same, feeds_end}
use Rattle.pv_where.proofs.spots.line_feeds.Goals as goal
use Rattle.pv_where.proofs.spots.line_feeds.Goals.{then-b-eq10, else-b-eq10}

pub loop-b-preserved : goal.loop-b-preserved
loop-b-preserved c =
    elim c.if-b-eq10.branch [
      | then-b-eq10 w ↦ record { most = omega (arith, w.count-is); feeds = omega (arith, w.count-is, c.loop-b.invariant.feeds, feeds_more c.args.text.now c.loop-b.b-index (omega arith) w.if-b-eq10.true) }
      | else-b-eq10 w ↦ record { most = omega (arith, w.count-is); feeds = omega (arith, w.count-is, c.loop-b.invariant.feeds, feeds_same c.args.text.now c.loop-b.b-index (omega arith) w.if-b-eq10.false) }
    ]

pub returns-clause-value : goal.returns-clause-value
returns-clause-value c = omega (arith, c.loop-b.invariant.feeds, feeds_end c.args.text.now c.loop-b.b-index (omega arith))
