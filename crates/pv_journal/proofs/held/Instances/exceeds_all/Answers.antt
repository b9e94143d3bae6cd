use Rattle.std.proofs.Common.{List, ℕ, ltb, get_or, sym, ap, ◌∙◌}
use Rattle.std.specs.List.{list_all}
use Rattle.pv_journal.specs.Keyed.{exceeded_by}
use Rattle.pv_journal.proofs.Indices.{exceeds_by}
use Rattle.pv_journal.proofs.held.Instances.exceeds_all.Goals as goal

pub returns : goal.returns
returns c =
    ap (λ t. ltb t c.args.key.k) (c.top_of.ensures ∙ ap (λ (l : List ℕ). get_or l c.args.key.name 0) c.as_slice.ensures.value ∙ c.self.invariant.tops c.args.key.name)
    ∙ sym (exceeds_by c.args.key c.self.inside.made.items c.requires) ∙ ap (list_all (exceeded_by c.args.key)) c.self.view_is
