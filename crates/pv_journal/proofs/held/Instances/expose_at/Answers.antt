use Rattle.std.proofs.Common.{◌≡◌, ℕ, List, Some, slice_get, get_or, subst}
use Rattle.pv_journal.specs.declared.held.Held.{Held}
use Rattle.pv_journal.proofs.Indexing.{indexed_exposed}
use Rattle.pv_journal.proofs.held.Instances.expose_at.Goals as goal

pub invariant_of-self : goal.invariant_of-self
invariant_of-self c =
    let x = subst (λ (l : List Held). slice_get l c.args.i ≡ Some c.held_in-x.result) c.as_slice.ensures.value c.held_in-x.ensures in
    indexed_exposed c.self.inside.made.items c.self.inside.live (λ (n : ℕ). get_or c.self.inside.tops.items n 0) c.self.inside.living.entries c.args.i c.held_in-x.result c.self.invariant x
