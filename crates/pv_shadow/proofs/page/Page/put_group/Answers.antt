use Rattle.pv_shadow.proofs.Cells.{seen_length}
use Rattle.pv_shadow.proofs.page.Page.put_group.Goals as goal

pub returns-clause-width : goal.returns-clause-width
returns-clause-width c = rw (← c.self.view_is) (seen_length c.self.inside.slots.value)
