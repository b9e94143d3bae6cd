use Rattle.std.proofs.Common.{arith}
use Rattle.pv_seq.proofs.Marking.{none_marked_more}
use Rattle.pv_seq.proofs.marks.are_touched.Goals as goal

pub loop-i-init : goal.loop-i-init
loop-i-init c = λ i n lt. absurd (omega (arith, lt))

pub loop-i-preserved : goal.loop-i-preserved
loop-i-preserved c = none_marked_more c.args.marks.now c.args.place c.loop-i.i c.args.start c.args.end c.loop-i.invariant (c.is_touched.ensures c.if-is_touched.false)

pub returns : goal.returns
returns c = λ none i n lt. c.loop-i.invariant i n (omega (arith, lt, c.loop-i-test.false))
