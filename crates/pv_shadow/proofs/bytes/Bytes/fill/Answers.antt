use Rattle.std.proofs.Common.{◌≡◌, ◌+◌, ◌-◌, replicate, ap, sym, subst, ◌∙◌, arith}
use Rattle.pv_shadow.specs.Bytes.{Store, with_bytes_at}
use Rattle.pv_shadow.specs.Readings.{HasBytes}
use Rattle.pv_shadow.proofs.Pages.{filled_step}
use Rattle.pv_shadow.proofs.Ranges.{has_part, has_written}
use Rattle.pv_shadow.proofs.bytes.Bytes.fill.Goals as goal

pub fill_within-requires-clause-there : goal.fill_within-requires-clause-there
fill_within-requires-clause-there c =
    has_part c.loop-i.self c.args.base c.loop-i.i c.in_page-n.result c.args.size (omega (arith, c.in_page-n.ensures.few, c.loop-i.invariant.few)) c.loop-i.invariant.there

pub loop-i-preserved : goal.loop-i-preserved
loop-i-preserved c =
    let P : Store → Type 0 = λ m. HasBytes m c.args.base c.args.size in
    record {
      rest = ap (λ m. with_bytes_at m (c.args.base + (c.loop-i.i + c.in_page-n.result)) (replicate (c.args.size - (c.loop-i.i + c.in_page-n.result)) c.args.byte)) c.fill_within.ensures
          ∙ filled_step c.loop-i.self c.args.base c.loop-i.i c.in_page-n.result c.args.size c.args.byte c.in_page-n.ensures.few c.loop-i.invariant.few ∙ c.loop-i.invariant.rest;
      there = subst P (sym c.fill_within.ensures) (has_written c.loop-i.self (c.args.base + c.loop-i.i) (replicate c.in_page-n.result c.args.byte) c.args.base c.args.size c.loop-i.invariant.there);
      few = omega (arith, c.in_page-n.ensures.few, c.loop-i.invariant.few);
    }

pub returns : goal.returns
returns c =
    let left : c.args.size - c.loop-i.i ≡ 0 = omega arith in
    sym (ap (λ n. with_bytes_at c.loop-i.self (c.args.base + c.loop-i.i) (replicate n c.args.byte)) left) ∙ c.loop-i.invariant.rest
