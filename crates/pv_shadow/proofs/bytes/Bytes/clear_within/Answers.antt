use Rattle.std.proofs.Common.{◌≡◌, List, length, replicate, Option, None, IsSome, sym, ap, subst, ◌∙◌, refl, arith}
use Rattle.std.proofs.lemmas.List.{length-replicate}
use Rattle.pv_shadow.specs.declared.byte.Byte.{Byte}
use Rattle.pv_shadow.specs.Pages.{store_of}
use Rattle.pv_shadow.specs.Buckets.{all_pages}
use Rattle.pv_shadow.proofs.Pages.{slot_of, no_page, none_cleared, changed_at, cleared_slots}
use Rattle.pv_shadow.proofs.bytes.Bytes.clear_within.Goals.{in-Some, in-None}
use Rattle.pv_shadow.proofs.bytes.Bytes.clear_within.Goals as goal

pub returns : goal.returns
returns c = c.leave.ensures ∙ elim c.match-get_mut.branch [
  | in-Some w ↦
      let there = subst (λ (o : Option (List (Option Byte))). IsSome o) w.in-Some.ensures.value refl in
      let gone : List (Option Byte) = replicate c.args.n None in
      let few : length gone ≡ c.args.n = length-replicate c.args.n None in
      rw (w.self-inside-is, ← c.self.view_is) (changed_at (all_pages c.self.inside.pages) (all_pages (c.get_mut.follows.lender w.clear.new.self)) c.args.a gone w.in-Some.page.now w.clear.new.self
      c.page_of.result w.place_of.result (omega (arith, few)) w.clear.ensures.width c.page_of.ensures w.place_of.ensures.place w.clear.ensures.slots
      (λ j. ap (λ o. slot_of o j) (sym w.in-Some.ensures.value)) (c.get_mut.follows.holds w.clear.new.self there)
      ∙ cleared_slots (store_of (all_pages c.self.inside.pages)) c.args.a c.args.n)
  | in-None w ↦
      let same : all_pages c.get_mut.follows.lender-at-none ≡ (all_pages c.self.inside.pages) = c.get_mut.follows.holds-at-none in
      rw (w.self-inside-is) (ap store_of same ∙ rw (c.self.view_is) (none_cleared c.args.self.now c.args.a c.args.n (λ k l.
      rw (← c.self.view_is) (no_page (all_pages c.self.inside.pages) c.args.a k c.page_of.result c.page_of.ensures w.in-None.ensures.value (omega arith)))))
]
