use Rattle.pv_check.proofs.Keeping.{kept_trans}
use Rattle.pv_check.proofs.operators.step.Goals as goal

pub pointer_assign-requires-clause-known : goal.pointer_assign-requires-clause-known
pointer_assign-requires-clause-known c = c.in-Ok.ensures.kept.grown.known c.requires.known

pub returns-clause-node : goal.returns-clause-node
returns-clause-node c = c.in-Ok-pointer_assign.ensures.node

pub returns-clause-kept : goal.returns-clause-kept
returns-clause-kept c = kept_trans _ _ _ c.in-Ok.ensures.kept c.in-Ok-pointer_assign.ensures.kept
