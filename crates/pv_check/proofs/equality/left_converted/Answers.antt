use Rattle.pv_check.proofs.Keeping.{kept_trans}
use Rattle.pv_check.proofs.equality.left_converted.Goals as goal

pub equality-requires-clause-known : goal.equality-requires-clause-known
equality-requires-clause-known c = c.in-Ok.ensures.kept.grown.known c.requires.known

pub returns-clause-node : goal.returns-clause-node
returns-clause-node c = c.in-Ok-equality.ensures.node

pub returns-clause-kept : goal.returns-clause-kept
returns-clause-kept c = kept_trans _ _ _ c.in-Ok.ensures.kept c.in-Ok-equality.ensures.kept
