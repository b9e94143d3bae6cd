use Rattle.std.proofs.Common.{◌+◌, ◌<◌, ◌≤◌, length, drop, sym, ap, arith, ◌∙◌}
use Rattle.pv_check.specs.Passing.{reads}
use Rattle.pv_check.proofs.PassingRows.{drop_at, drop_past}
use Rattle.pv_check.proofs.formats.is_format.Goals as goal

pub loop-i-preserved : goal.loop-i-preserved
loop-i-preserved c =
    let bs = c.args.bytes.now in
    let lt : c.loop-i.i < length bs = c.loop-i-test.true in
    (omega (arith, lt), c.in-Some.ensures (drop (c.loop-i.i + 1) bs) ∙ ap (reads c.loop-i.place) (sym (drop_at bs c.loop-i.i 0 lt)) ∙ c.loop-i.invariant.1)

pub returns-in_default : goal.returns-in_default
returns-in_default c =
    let bs = c.args.bytes.now in
    let lt : c.loop-i.i < length bs = c.loop-i-test.true in
    c.in_default.ensures (drop (c.loop-i.i + 1) bs) ∙ ap (reads c.loop-i.place) (sym (drop_at bs c.loop-i.i 0 lt)) ∙ c.loop-i.invariant.1

pub returns : goal.returns
returns c =
    let bs = c.args.bytes.now in
    let le : length bs ≤ c.loop-i.i = c.loop-i-test.false in
    c.is_text.ensures ∙ ap (reads c.loop-i.place) (sym (drop_past bs c.loop-i.i le)) ∙ c.loop-i.invariant.1
