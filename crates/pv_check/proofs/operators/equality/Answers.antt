use Rattle.pv_check.proofs.Keeping.{kept_trans}
use Rattle.pv_check.proofs.operators.equality.Goals as goal

pub equal-requires-clause-known : goal.equal-requires-clause-known
equal-requires-clause-known c = c.in-Ok.ensures.kept.grown.known c.requires.known

pub returns-clause-node : goal.returns-clause-node
returns-clause-node c = c.in-Ok-equal.ensures.node

pub returns-clause-kept : goal.returns-clause-kept
returns-clause-kept c = kept_trans _ _ _ c.in-Ok.ensures.kept c.in-Ok-equal.ensures.kept
