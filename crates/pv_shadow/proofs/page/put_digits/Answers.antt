use Rattle.std.proofs.Common.{◌∙◌, ◌+◌, ◌-◌, ◌/◌, ap, set, map, Some, arith}
use Rattle.pv_shadow.specs.Packed.{page_bytes}
use Rattle.pv_shadow.specs.Pages.{with_slots}
use Rattle.pv_shadow.specs.Whole.{little_endian, number_bytes}
use Rattle.pv_shadow.proofs.Numbers.{number_step}
use Rattle.pv_shadow.proofs.page.put_digits.Goals as goal

pub loop-k-preserved : goal.loop-k-preserved
loop-k-preserved c = record {
  left = ap (λ t. with_slots t (c.args.i + (c.loop-k.k + 1)) (map Some (number_bytes c.args.mark (c.loop-k.k + 1) (little_endian (c.args.n - (c.loop-k.k + 1)) (c.loop-k.rest / 256)))))
      (c.put.ensures.put ∙ ap (λ o. set (page_bytes c.loop-k.slots) (c.args.i + c.loop-k.k) o) (c.pack.ensures.is ∙ ap Some c.plain_byte.ensures))
      ∙ number_step (page_bytes c.loop-k.slots) c.args.i c.args.n c.loop-k.k c.loop-k.rest c.args.mark (omega arith)
      ∙ c.loop-k.invariant.left;
  wide = c.put.ensures.long;
}
