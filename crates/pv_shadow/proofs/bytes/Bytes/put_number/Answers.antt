use Rattle.std.proofs.Common.{◌≡◌, ◌+◌, List, length, map, Option, Some, None, IsSome, refl, sym, ap, subst, ◌∙◌, arith}
use Rattle.std.specs.FinMap as fin
use Rattle.std.proofs.lemmas.Bool.{false≢true}
use Rattle.std.proofs.lemmas.List.{length-map}
use Rattle.pv_shadow.specs.declared.byte.Byte.{Byte}
use Rattle.pv_shadow.specs.Pages.{store_of}
use Rattle.pv_shadow.specs.Whole.{number_bytes, little_endian}
use Rattle.pv_shadow.specs.Buckets.{all_pages}
use Rattle.pv_shadow.proofs.Pages.{slot_of, no_page, changed_at, written_slots}
use Rattle.pv_shadow.proofs.Numbers.{plain_long}
use Rattle.pv_shadow.proofs.bytes.Bytes.put_number.Goals as goal

pub unreachable-requires : goal.unreachable-requires
unreachable-requires c =
    let P : Option Byte → Type 0 = λ o. IsSome o in
    let e : fin.get c.args.self.now (c.args.a + 0) ≡ None = rw (← c.self.view_is)
    (no_page (all_pages c.self.inside.pages) c.args.a 0 c.page_of.result c.page_of.ensures c.in-None.ensures.value (omega arith)) in
    false≢true (subst P e (c.requires.there 0 (omega arith)))

pub returns : goal.returns
returns c =
    let there = subst (λ (o : Option (List (Option Byte))). IsSome o) c.in-Some.ensures.value refl in
    let bytes : List Byte = number_bytes c.args.mark 0 (little_endian c.args.n c.args.number) in
    let some : List (Option Byte) = map (λ (b : Byte). Some b) bytes in
    let few : length some ≡ c.args.n = length-map bytes (λ (b : Byte). Some b) ∙ plain_long c.args.mark 0 c.args.n c.args.number in
    rw (← c.self.view_is) (changed_at (all_pages c.self.inside.pages) (all_pages (c.get_mut.follows.lender c.put_number.new.self)) c.args.a some c.in-Some.page.now c.put_number.new.self
    c.page_of.result c.place_of-in-Some.result (omega (arith, few)) c.put_number.ensures.width c.page_of.ensures c.place_of-in-Some.ensures.place c.put_number.ensures.slots
    (λ j. ap (λ o. slot_of o j) (sym c.in-Some.ensures.value)) (c.get_mut.follows.holds c.put_number.new.self there)
    ∙ written_slots (store_of (all_pages c.self.inside.pages)) c.args.a bytes)
