use Rattle.std.proofs.Common.{◌∙◌, codes}
use Rattle.pv_shown.proofs.Walks.{tied_counted, two_parts}
use Rattle.pv_shown.proofs.showing.add_pairs.Goals as goal

pub returns : goal.returns
returns c = two_parts _ _ (codes "pairs") _ _ _ _ _ c.in_ok-add_ties.ensures (c.tied_count.ensures ∙ tied_counted c.args.names.now c.args.n c.args.ties.now) c.add_count.ensures
