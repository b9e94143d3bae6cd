use Rattle.std.proofs.Common.{ℕ, ◌≤◌, sym, ◌∙◌, subst}
use Rattle.pv_eval.proofs.Allowing.{complete_bare, size_bare}
use Rattle.pv_eval.proofs.permission.permits_allocation.Goals as goal

pub permits_heap-requires-clause-complete : goal.permits_heap-requires-clause-complete
permits_heap-requires-clause-complete c = complete_bare c.args.unit.now.known c.types.result.now c.bare-want.result.0 c.args.l.t.0 c.types.ensures c.bare-want.ensures.tree c.requires.complete.complete

pub permits_heap-requires-clause-small : goal.permits_heap-requires-clause-small
permits_heap-requires-clause-small c =
    let same = size_bare c.args.unit.now.known c.types.result.now c.bare-want.result.0 c.args.l.t.0 c.types.ensures c.bare-want.ensures.tree in
    let P : ℕ → Type 0 = λ n. n ≤ 4294967296 in
    subst P (sym same) c.requires.complete.small

pub permits_heap-requires-clause-size : goal.permits_heap-requires-clause-size
permits_heap-requires-clause-size c =
    c.requires.complete.size ∙ sym (size_bare c.args.unit.now.known c.types.result.now c.bare-want.result.0 c.args.l.t.0 c.types.ensures c.bare-want.ensures.tree)
