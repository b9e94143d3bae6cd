use Rattle.std.proofs.Common.{◌≡◌, ◌+◌, ◌*◌, drop, arith}
use Rattle.pv_lex.specs.Constants.{value_from}
use Rattle.pv_lex.proofs.Values.{value_step, value_end, value_grows, too_big, small_enough}
use Rattle.pv_lex.proofs.numbers.value.Goals as goal

pub returns-then-next : goal.returns-then-next
returns-then-next c =
    let e : value_from c.args.base 0 c.args.digits.now ≡ value_from c.args.base (c.loop-d.n * c.args.base + c.digit_value.result) (drop (c.loop-d.d-index + 1) c.args.digits.now) = rw c.digit_value.ensures (value_step c.args.base c.loop-d.n c.loop-d.d-index c.args.digits.now _ c.loop-d-test.true c.loop-d.invariant) in
    let g = value_grows c.args.base (c.loop-d.n * c.args.base + c.digit_value.result) (drop (c.loop-d.d-index + 1) c.args.digits.now) c.requires.base_low in
    too_big _ (omega (arith, e, g))

pub loop-d-preserved : goal.loop-d-preserved
loop-d-preserved c =
    let e = value_step c.args.base c.loop-d.n c.loop-d.d-index c.args.digits.now _ c.loop-d-test.true c.loop-d.invariant in
    rw c.digit_value.ensures e

pub returns : goal.returns
returns c = small_enough _ _ (value_end c.args.base c.loop-d.n c.loop-d.d-index c.args.digits.now _ c.loop-d-test.false c.loop-d.invariant) (omega arith)
