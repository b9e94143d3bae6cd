use Rattle.std.proofs.Common.{◌≡◌, ℕ, List, length, replicate, Option, Some, IsSome, sym, ap, subst, ◌∙◌, refl, arith}
use Rattle.std.proofs.lemmas.List.{length-replicate}
use Rattle.pv_shadow.specs.declared.byte.Byte.{Byte}
use Rattle.pv_shadow.specs.Readings.{HasBytes}
use Rattle.pv_shadow.specs.Pages.{store_of}
use Rattle.pv_shadow.specs.Buckets.{all_pages}
use Rattle.pv_shadow.proofs.Pages.{slot_of, no_page, none_written, changed_at, filled_slots}
use Rattle.pv_shadow.proofs.bytes.Bytes.fill_within.Goals.{in-Some, in-None}
use Rattle.pv_shadow.proofs.bytes.Bytes.fill_within.Goals as goal

pub returns : goal.returns
returns c = elim c.match-get_mut.branch [
  | in-Some w ↦
      let there = subst (λ (o : Option (List (Option Byte))). IsSome o) w.in-Some.ensures.value refl in
      let slots : List (Option Byte) = replicate c.args.n (Some c.args.byte) in
      let few : length slots ≡ c.args.n = length-replicate c.args.n (Some c.args.byte) in
      rw (w.self-inside-is, ← c.self.view_is) (changed_at (all_pages c.self.inside.pages) (all_pages (c.get_mut.follows.lender w.fill.new.self)) c.args.a slots w.in-Some.page.now w.fill.new.self
      c.page_of.result w.place_of.result (omega (arith, few)) w.fill.ensures.width c.page_of.ensures w.place_of.ensures.place w.fill.ensures.slots
      (λ j. ap (λ o. slot_of o j) (sym w.in-Some.ensures.value)) (c.get_mut.follows.holds w.fill.new.self there)
      ∙ filled_slots (store_of (all_pages c.self.inside.pages)) c.args.a c.args.n c.args.byte)
  | in-None w ↦
      let same : all_pages c.get_mut.follows.lender-at-none ≡ (all_pages c.self.inside.pages) = c.get_mut.follows.holds-at-none in
      let P : ℕ → Type 0 = λ k. HasBytes c.args.self.now c.args.a k in
      rw (w.self-inside-is) (ap store_of same ∙ rw (c.self.view_is) (none_written c.args.self.now c.args.a (replicate c.args.n c.args.byte) (subst P (sym (length-replicate c.args.n c.args.byte)) c.requires.there)
      (rw (← c.self.view_is) (no_page (all_pages c.self.inside.pages) c.args.a 0 c.page_of.result c.page_of.ensures w.in-None.ensures.value (omega arith)))))
]
