use Rattle.std.proofs.Common.{◌≡◌, ◌+◌, Option, None, IsSome, sym, subst, ◌∙◌, arith}
use Rattle.std.specs.FinMap as fin
use Rattle.std.proofs.lemmas.Bool.{false≢true}
use Rattle.pv_shadow.specs.declared.byte.Byte.{Byte}
use Rattle.pv_shadow.specs.Buckets.{all_pages}
use Rattle.pv_shadow.proofs.Pages.{page_says, no_page}
use Rattle.pv_shadow.proofs.bytes.Bytes.group.Goals as goal

pub unreachable-requires : goal.unreachable-requires
unreachable-requires c =
    let P : Option Byte → Type 0 = λ o. IsSome o in
    let e : fin.get c.args.self.now (c.args.a + 0) ≡ None = rw (← c.self.view_is)
    (no_page (all_pages c.self.inside.pages) c.args.a 0 c.page_of.result c.page_of.ensures c.in-None.ensures.value (omega arith)) in
    false≢true (subst P e (c.requires.there 0 (omega arith)))

pub returns : goal.returns
returns c = λ k h.
    let e : fin.get c.args.self.now (c.args.a + k) ≡ _ = rw (← c.self.view_is)
    (page_says (all_pages c.self.inside.pages) c.args.a k c.page_of.result c.place_of.result c.in-Some.page.now c.page_of.ensures c.place_of.ensures.place c.in-Some.ensures.value (omega (arith, h, c.requires.first))) in
    c.group.ensures k h ∙ sym e
