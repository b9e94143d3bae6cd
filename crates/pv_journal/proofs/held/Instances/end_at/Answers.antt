use Rattle.std.proofs.Common.{◌≡◌, ℕ, List, Some, slice_get, get_or, not, ap, subst, arith}
use Rattle.pv_journal.specs.declared.held.Held.{Held}
use Rattle.pv_journal.proofs.Changed.{ended_sum}
use Rattle.pv_journal.proofs.Indexing.{indexed_over}
use Rattle.pv_journal.proofs.held.Instances.end_at.Goals as goal

pub overflow_sub-self : goal.overflow_sub-self
overflow_sub-self c =
    let x = subst (λ (l : List Held). slice_get l c.args.i ≡ Some c.held_in-x.result) c.as_slice.ensures.value c.held_in-x.ensures in
    omega (arith, ended_sum c.self.inside.made.items c.args.i c.held_in-x.result x (ap not c.if-not-x.false), c.self.invariant.sum)

pub invariant_of-self : goal.invariant_of-self
invariant_of-self c =
    let x = subst (λ (l : List Held). slice_get l c.args.i ≡ Some c.held_in-x.result) c.as_slice.ensures.value c.held_in-x.ensures in
    indexed_over c.self.inside.made.items c.self.inside.live (λ (n : ℕ). get_or c.self.inside.tops.items n 0) c.self.inside.living.entries c.remove.new.self.entries c.args.i c.held_in-x.result
    c.self.invariant x (ap not c.if-not-x.false) c.remove.ensures.updates.0
