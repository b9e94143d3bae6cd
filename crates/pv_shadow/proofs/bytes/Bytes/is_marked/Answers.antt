use Rattle.std.proofs.Common.{◌≡◌, ◌+◌, Option, Some, None, IsSome, sym, ap, subst, ◌∙◌, refl, arith}
use Rattle.std.specs.FinMap as fin
use Rattle.std.proofs.lemmas.Bool.{false≢true}
use Rattle.pv_shadow.specs.declared.byte.Byte.{Byte}
use Rattle.pv_shadow.specs.Bytes.{bytes_from}
use Rattle.pv_shadow.specs.Buckets.{all_pages}
use Rattle.pv_shadow.proofs.Pages.{page_says, no_page, slot_is}
use Rattle.pv_shadow.proofs.Whole.{read_long, read_at}
use Rattle.pv_shadow.proofs.bytes.Bytes.is_marked.Goals as goal

pub returns : goal.returns
returns c = c.is_marked.ensures (bytes_from c.args.self.now c.args.a c.args.n) (read_long c.args.self.now c.args.a c.args.n) (λ k l.
    let e : fin.get c.args.self.now (c.args.a + k) ≡ _ = rw (← c.self.view_is)
    (page_says (all_pages c.self.inside.pages) c.args.a k c.page_of.result c.place_of-in-Some.result c.in-Some.page.now c.page_of.ensures c.place_of-in-Some.ensures.place c.in-Some.ensures.value (omega arith)) in
    sym e ∙ slot_is c.args.self.now (fin.get c.args.self.now (c.args.a + k)) (c.args.a + k) refl (c.requires.there k l) ∙ ap Some (sym (read_at c.args.self.now c.args.a c.args.n k l)))

pub unreachable-requires : goal.unreachable-requires
unreachable-requires c =
    let P : Option Byte → Type 0 = λ o. IsSome o in
    let e : fin.get c.args.self.now (c.args.a + 0) ≡ None = rw (← c.self.view_is)
    (no_page (all_pages c.self.inside.pages) c.args.a 0 c.page_of.result c.page_of.ensures c.in-None.ensures.value (omega arith)) in
    false≢true (subst P e (c.requires.there 0 (omega arith)))
