use Rattle.std.proofs.Common.{◌≡◌, ◌+◌, List, length, Option, None, IsSome, refl, sym, ap, subst, ◌∙◌, arith}
use Rattle.std.specs.FinMap as fin
use Rattle.std.proofs.lemmas.Bool.{false≢true}
use Rattle.pv_shadow.specs.declared.byte.Byte.{Byte}
use Rattle.pv_shadow.specs.Bytes.{Store}
use Rattle.pv_shadow.specs.Packed.{seen_from}
use Rattle.pv_shadow.specs.Buckets.{all_pages}
use Rattle.pv_shadow.proofs.Pages.{slot_of, no_page, changed_at, put_slots}
use Rattle.pv_shadow.proofs.Cells.{length_from}
use Rattle.pv_shadow.proofs.Copies.{group_written}
use Rattle.pv_shadow.proofs.bytes.Bytes.copy_group.Goals as goal

pub unreachable-requires : goal.unreachable-requires
unreachable-requires c =
    let P : Option Byte → Type 0 = λ o. IsSome o in
    let e : fin.get c.args.self.now (c.args.to + 0) ≡ None = rw (← c.self.view_is)
    (no_page (all_pages c.self.inside.pages) c.args.to 0 c.page_of.result c.page_of.ensures c.in-None.ensures.value (omega arith)) in
    false≢true (subst P e (c.requires.target 0 (omega arith)))

pub returns : goal.returns
returns c =
    let there = subst (λ (o : Option (List (Option Byte))). IsSome o) c.in-Some.ensures.value refl in
    let ys : List (Option Byte) = seen_from 8 0 c.group-group.result in
    let few : length ys ≡ 8 = length_from 8 0 c.group-group.result in
    changed_at (all_pages c.self.inside.pages) (all_pages (c.get_mut.follows.lender c.put_group.new.self)) c.args.to ys c.in-Some.page.now c.put_group.new.self
    c.page_of.result c.place_of.result (omega (arith, few, c.requires.to_first)) c.put_group.ensures.width c.page_of.ensures c.place_of.ensures.place c.put_group.ensures.slots
    (λ j. ap (λ o. slot_of o j) (sym c.in-Some.ensures.value)) (c.get_mut.follows.holds c.put_group.new.self there)
    ∙ ap (λ (m : Store). put_slots m c.args.to ys) c.self.view_is
    ∙ group_written c.args.self.now c.group-group.result c.args.to c.args.from c.group-group.ensures c.requires.source
