use Rattle.pv_check.proofs.Keeping.{kept_trans}
use Rattle.pv_check.proofs.constants.integer.Goals as goal

pub returns-clause-node : goal.returns-clause-node
returns-clause-node c = c.in-Ok-add_integer.ensures.node

pub returns-clause-kept : goal.returns-clause-kept
returns-clause-kept c = kept_trans _ _ _ c.in-Ok.ensures.kept c.in-Ok-add_integer.ensures.kept
