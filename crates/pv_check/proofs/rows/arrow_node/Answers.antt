use Rattle.pv_check.proofs.Keeping.{kept_trans}
use Rattle.pv_check.proofs.rows.arrow_node.Goals as goal

pub arrow_from-requires-clause-known : goal.arrow_from-requires-clause-known
arrow_from-requires-clause-known c = c.in-Ok.ensures.kept.grown.known c.requires.known

pub returns-clause-node : goal.returns-clause-node
returns-clause-node c = c.in-Ok-arrow_from.ensures.node

pub returns-clause-kept : goal.returns-clause-kept
returns-clause-kept c = kept_trans _ _ _ c.in-Ok.ensures.kept c.in-Ok-arrow_from.ensures.kept
