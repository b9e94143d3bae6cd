use Rattle.std.proofs.Common.{List, Option, IsSome, refl, sym, subst, ◌∙◌}
use Rattle.pv_shadow.specs.declared.byte.Byte.{Byte}
use Rattle.pv_shadow.proofs.Buckets.{says_near, says_far}
use Rattle.pv_shadow.proofs.table.Pages.get.Goals as goal

pub returns-in-Some : goal.returns-in-Some
returns-in-Some c =
    let there = subst (λ (o : Option (List (Option Byte))). IsSome o) c.in-Some.ensures.value refl in
    record { value = c.in-Some.ensures.value ∙ says_near c.args.self.now.buckets.items c.args.self.now.overflow.entries c.args.k there }

pub returns-in-None : goal.returns-in-None
returns-in-None c = record { value = c.get.ensures.value ∙ says_far c.args.self.now.buckets.items c.args.self.now.overflow.entries c.args.k (sym c.in-None.ensures.value) }
