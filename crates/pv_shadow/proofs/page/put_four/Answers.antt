use Rattle.std.proofs.Common.{set, map, Some, ap, ◌∙◌}
use Rattle.pv_shadow.specs.Packed.{page_bytes}
use Rattle.pv_shadow.specs.Pages.{with_slots}
use Rattle.pv_shadow.specs.Whole.{little_endian, number_bytes}
use Rattle.pv_shadow.proofs.Cells.{numbered}
use Rattle.pv_shadow.proofs.page.put_four.Goals as goal

pub returns-clause-put : goal.returns-clause-put
returns-clause-put c =
    ap (λ h. page_bytes (set c.leave_pointer.new.slots c.args.i h)) c.number_head.ensures
    ∙ numbered c.leave_pointer.new.slots c.args.i c.args.number c.args.mark c.leave_pointer.ensures.long c.requires.first c.requires.within c.leave_pointer.ensures.head
    ∙ ap (λ t. with_slots t c.args.i (map Some (number_bytes c.args.mark 0 (little_endian 4 c.args.number)))) c.leave_pointer.ensures.same
