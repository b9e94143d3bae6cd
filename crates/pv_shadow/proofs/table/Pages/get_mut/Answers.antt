use Rattle.std.proofs.Common.{List, Option, IsSome, refl, ap, sym, subst, ◌∙◌, Some}
use Rattle.pv_shadow.specs.declared.byte.Byte.{Byte}
use Rattle.pv_shadow.specs.Buckets.{by_buckets}
use Rattle.pv_shadow.proofs.Buckets.{near_changes, others_change, is_none, says_near, says_far}
use Rattle.pv_shadow.proofs.table.Pages.get_mut.Goals as goal

pub near_mut-requires : goal.near_mut-requires
near_mut-requires c = sym c.is_near.ensures ∙ c.if-is_near.true

pub returns-then-is_near : goal.returns-then-is_near
returns-then-is_near c =
    let ws = c.args.self.now.buckets.items in
    let es = c.args.self.now.overflow.entries in
    let there = sym c.is_near.ensures ∙ c.if-is_near.true in (
      (refl, (λ w s. near_changes ws es c.args.k w there), refl),
      record { writes_back = tt; value = sym c.near_mut.ensures.value ∙ says_near ws es c.args.k there },
    )

pub returns-else-is_near : goal.returns-else-is_near
returns-else-is_near c =
    let ws = c.args.self.now.buckets.items in
    let es = c.args.self.now.overflow.entries in
    let none = is_none _ (sym c.is_near.ensures ∙ c.if-is_near.false) in
    let far = says_far ws es c.args.k none in
    let P : Option (List (Option Byte)) → Type 0 = λ o. IsSome o in (
      (
        refl,
        (λ w s. others_change ws es (c.get_mut.follows.lender w).entries c.args.k (Some w) none ((c.get_mut.follows.holds w).3 (subst P (sym far) s)).0),
        ap (λ m. by_buckets 0 ws m.entries) c.get_mut.follows.holds-at-none,
      ),
      record { writes_back = tt; value = c.get_mut.ensures.value ∙ far },
    )
