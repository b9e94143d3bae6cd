use Rattle.pv_check.proofs.Keeping.{kept_trans}
use Rattle.pv_check.proofs.operators.simple.Goals as goal

pub assign_to-requires-clause-known : goal.assign_to-requires-clause-known
assign_to-requires-clause-known c = c.in-Ok.ensures.kept.grown.known c.requires.known

pub returns-clause-node : goal.returns-clause-node
returns-clause-node c = c.in-Ok-assign_to.ensures.node

pub returns-clause-kept : goal.returns-clause-kept
returns-clause-kept c = kept_trans _ _ _ c.in-Ok.ensures.kept c.in-Ok-assign_to.ensures.kept
