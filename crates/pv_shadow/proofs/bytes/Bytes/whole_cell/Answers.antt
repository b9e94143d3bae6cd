use Rattle.std.proofs.Common.{arith}
use Rattle.pv_shadow.specs.Buckets.{all_pages}
use Rattle.pv_shadow.proofs.Pages.{page_says}
use Rattle.pv_shadow.proofs.Whole.{cell_read}
use Rattle.pv_shadow.proofs.bytes.Bytes.whole_cell.Goals as goal

pub returns-in-Some : goal.returns-in-Some
returns-in-Some c = cell_read c.cell.result c.in-Some.page.now c.args.self.now c.args.a c.place_of-in-Some.result c.cell.ensures.cell c.cell.ensures.fits (λ k l.
    rw (← c.self.view_is) (page_says (all_pages c.self.inside.pages) c.args.a k c.page_of.result c.place_of-in-Some.result c.in-Some.page.now c.page_of.ensures c.place_of-in-Some.ensures.place c.in-Some.ensures.value (omega arith)))
