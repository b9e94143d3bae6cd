use Rattle.std.proofs.Common.{◌+◌, arith}
use Rattle.pv_seq.proofs.Marking.{mark_kept, marks_unchanged, marked_more}
use Rattle.pv_seq.proofs.marks.mark.Goals as goal

pub loop-i-init : goal.loop-i-init
loop-i-init c = (λ byte n h. h, λ i lt. absurd (omega (arith, lt)))

pub returns-in_err-insert-clause-kept : goal.returns-in_err-insert-clause-kept
returns-in_err-insert-clause-kept c = λ byte n h. marks_unchanged c.loop-i.marks c.insert.new.self c.in_err-insert.ensures.err byte n (c.loop-i.invariant.0 byte n h)

pub loop-i-preserved : goal.loop-i-preserved
loop-i-preserved c =
    let u = c.in_ok-insert.ensures.updates in (
      λ byte n h. mark_kept c.loop-i.marks c.insert.new.self (c.args.place + c.loop-i.i) c.args.number u byte n (c.loop-i.invariant.0 byte n h),
      marked_more c.loop-i.marks c.insert.new.self c.args.place c.args.number c.loop-i.i u c.loop-i.invariant.1,
    )

pub returns-clause-kept : goal.returns-clause-kept
returns-clause-kept c = c.loop-i.invariant.0

pub returns-clause-marked : goal.returns-clause-marked
returns-clause-marked c = λ i lt. c.loop-i.invariant.1 i (omega (arith, lt, c.loop-i-test.false))
