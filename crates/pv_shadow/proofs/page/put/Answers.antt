use Rattle.std.proofs.Common.{set, ap, ◌∙◌}
use Rattle.pv_shadow.specs.Packed.{byte_packed}
use Rattle.pv_shadow.proofs.Cells.{put_seen}
use Rattle.pv_shadow.proofs.page.put.Goals as goal

pub returns-clause-put : goal.returns-clause-put
returns-clause-put c =
    put_seen c.leave_cells.new.slots c.args.i c.args.x c.leave_cells.ensures.long c.requires.within c.leave_cells.ensures.head c.leave_cells.ensures.single c.requires.single
    ∙ ap (λ t. set t c.args.i (byte_packed c.args.x)) c.leave_cells.ensures.same
