use Rattle.std.proofs.Common.{arith}
use Rattle.pv_shadow.specs.Buckets.{all_pages}
use Rattle.pv_shadow.proofs.Pages.{page_says}
use Rattle.pv_shadow.proofs.Whole.{number_read, digits_read}
use Rattle.pv_shadow.proofs.bytes.Bytes.page_number.Goals as goal

pub returns-in-Some-clause-number : goal.returns-in-Some-clause-number
returns-in-Some-clause-number c = number_read c.number.result c.in-Some.page.now c.args.self.now c.args.a c.place_of-in-Some.result c.args.n c.number.ensures.number c.number.ensures.fits (λ k l.
    rw (← c.self.view_is) (page_says (all_pages c.self.inside.pages) c.args.a k c.page_of.result c.place_of-in-Some.result c.in-Some.page.now c.page_of.ensures c.place_of-in-Some.ensures.place c.in-Some.ensures.value (omega arith)))

pub returns-in-Some-clause-digits : goal.returns-in-Some-clause-digits
returns-in-Some-clause-digits c = digits_read c.number.result c.in-Some.page.now c.args.self.now c.args.a c.place_of-in-Some.result c.args.n c.number.ensures.number (λ k l.
    rw (← c.self.view_is) (page_says (all_pages c.self.inside.pages) c.args.a k c.page_of.result c.place_of-in-Some.result c.in-Some.page.now c.page_of.ensures c.place_of-in-Some.ensures.place c.in-Some.ensures.value (omega arith)))
