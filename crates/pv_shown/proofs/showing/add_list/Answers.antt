use Rattle.std.proofs.Common.{◌∙◌, codes}
use Rattle.pv_shown.proofs.Walks.{live_counted, two_parts}
use Rattle.pv_shown.proofs.showing.add_list.Goals as goal

pub returns : goal.returns
returns c =
    two_parts _ _ (codes "live") _ _ _ _ _ (rw c.as_slice-lives.ensures.value at c.in_ok-add_lives.ensures)
    (rw c.as_slice-lives.ensures.value at c.live_count.ensures ∙ live_counted c.args.names.now c.args.n c.args.past.now.lives.items) c.add_count.ensures
