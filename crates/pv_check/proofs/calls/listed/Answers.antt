use Rattle.pv_check.proofs.PassingRows.{nodes_stay}
use Rattle.pv_check.proofs.calls.listed.Goals as goal

pub returns-clause-trees : goal.returns-clause-trees
returns-clause-trees c = nodes_stay c.args.into.now c.add_list.new.self c.args.args.now c.in_ok-l.ensures.grown c.requires.nodes
