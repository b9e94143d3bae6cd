use Rattle.std.proofs.Common.{◌∙◌, ◌+◌, ap, set, drop, map, Some, arith}
use Rattle.pv_shadow.specs.Bytes.{blank_byte}
use Rattle.pv_shadow.specs.Packed.{page_bytes}
use Rattle.pv_shadow.specs.Pages.{with_slots}
use Rattle.pv_shadow.proofs.Pages.{write_step}
use Rattle.pv_shadow.proofs.Cells.{seen_length}
use Rattle.pv_shadow.proofs.page.Page.write.Goals as goal

pub loop-k-preserved : goal.loop-k-preserved
loop-k-preserved c = record {
  rest = ap (λ t. with_slots t (c.args.i + (c.loop-k.k + 1)) (map Some (drop (c.loop-k.k + 1) c.args.from.now))) (c.put.ensures.put ∙ ap (λ o. set (page_bytes c.deref_mut.result.now) (c.args.i + c.loop-k.k) o) c.pack.ensures.is)
      ∙ write_step (page_bytes c.deref_mut.result.now) c.args.i c.loop-k.k c.args.from.now blank_byte (omega arith)
      ∙ ap (λ xs. with_slots (page_bytes xs) (c.args.i + c.loop-k.k) (map Some (drop c.loop-k.k c.args.from.now))) c.deref_mut.ensures.value ∙ c.loop-k.invariant.rest;
  wide = c.put.ensures.long;
}

pub returns-clause-width : goal.returns-clause-width
returns-clause-width c = rw (← c.self.view_is) (seen_length c.self.inside.slots.value)
