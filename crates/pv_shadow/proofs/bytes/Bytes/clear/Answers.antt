use Rattle.std.proofs.Common.{◌+◌, ◌-◌, ap, ◌∙◌, arith}
use Rattle.pv_shadow.specs.Bytes.{without_bytes}
use Rattle.pv_shadow.proofs.Pages.{clear_step}
use Rattle.pv_shadow.proofs.bytes.Bytes.clear.Goals as goal

pub loop-i-preserved : goal.loop-i-preserved
loop-i-preserved c = record {
  rest = ap (λ m. without_bytes m (c.args.base + (c.loop-i.i + c.in_page-n.result)) (c.args.size - (c.loop-i.i + c.in_page-n.result))) c.clear_within.ensures
      ∙ clear_step c.loop-i.self c.args.base c.loop-i.i c.in_page-n.result c.args.size c.in_page-n.ensures.few c.loop-i.invariant.few ∙ c.loop-i.invariant.rest;
  few = omega (arith, c.in_page-n.ensures.few, c.loop-i.invariant.few);
}
