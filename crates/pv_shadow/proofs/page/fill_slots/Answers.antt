use Rattle.std.proofs.Common.{ap, ◌∙◌, replicate}
use Rattle.pv_shadow.specs.Packed.{page_bytes}
use Rattle.pv_shadow.specs.Pages.{with_slots}
use Rattle.pv_shadow.proofs.page.fill_slots.Goals as goal

pub returns-clause-filled : goal.returns-clause-filled
returns-clause-filled c =
    c.fill_apart.ensures.filled
    ∙ ap (λ o. with_slots (page_bytes c.detach.new.slots) c.args.i (replicate c.args.n o)) c.pack_or.ensures.is
    ∙ ap (λ t. with_slots t c.args.i (replicate c.args.n c.args.byte)) c.detach.ensures.same
