use Rattle.std.proofs.Common.{◌∙◌}
use Rattle.pv_shadow.proofs.Cells.{still_parted}
use Rattle.pv_shadow.proofs.page.detach.Goals as goal

pub returns-clause-same : goal.returns-clause-same
returns-clause-same c = c.part-2.ensures.same ∙ c.part.ensures.same

pub returns-clause-front : goal.returns-clause-front
returns-clause-front c = still_parted c.part.new.slots c.part-2.new.slots c.args.i c.part-2.ensures.loosened c.part.ensures.parted
