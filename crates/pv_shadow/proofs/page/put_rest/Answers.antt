use Rattle.std.proofs.Common.{map, Some, sym, subst, ◌≡◌}
use Rattle.pv_shadow.specs.Packed.{page_bytes}
use Rattle.pv_shadow.specs.Pages.{with_slots}
use Rattle.pv_shadow.specs.Whole.{little_endian, number_bytes}
use Rattle.pv_shadow.proofs.page.put_rest.Goals as goal

pub returns-then-are_eight-clause-put : goal.returns-then-are_eight-clause-put
returns-then-are_eight-clause-put c =
    subst (λ m. page_bytes c.put_eight.new.slots ≡ with_slots (page_bytes c.args.slots.now) c.args.i (map Some (number_bytes c.args.mark 0 (little_endian m c.args.number))))
    (sym (c.are_eight.ensures.eight c.if-are_eight.true)) c.put_eight.ensures.put
