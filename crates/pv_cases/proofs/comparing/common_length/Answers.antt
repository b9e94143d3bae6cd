use Rattle.std.proofs.Common.{◌≡◌, length, min, arith, ◌∙◌, sym}
use Rattle.pv_cases.proofs.Walks.{shorter_ended}
use Rattle.pv_cases.proofs.comparing.common_length.Goals as goal

pub returns : goal.returns
returns c =
    let end : c.loop-at.at ≡ c.min-shorter.result = omega (arith, c.loop-at.auto.at-end, c.loop-at-test.false) in
    let short : c.loop-at.at ≡ min (length c.args.one.now) (length c.args.other.now) = omega (arith, c.min-shorter.ensures, c.loop-at.auto.at-end, c.loop-at-test.false) in
    sym end ∙ shorter_ended c.args.one.now c.args.other.now c.loop-at.at _ short c.loop-at.invariant
