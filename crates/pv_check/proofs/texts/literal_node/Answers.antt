use Rattle.pv_check.proofs.Keeping.{kept_trans}
use Rattle.pv_check.proofs.texts.literal_node.Goals as goal

pub intern-requires-2-clause-known : goal.intern-requires-2-clause-known
intern-requires-2-clause-known c = c.in-Ok.ensures.kept.grown.known c.requires.known

pub returns-clause-node : goal.returns-clause-node
returns-clause-node c = c.in-Ok-add.ensures.node

pub returns-clause-kept : goal.returns-clause-kept
returns-clause-kept c = kept_trans _ _ _ c.in-Ok.ensures.kept (kept_trans _ _ _ c.in-Ok-intern.ensures.kept c.in-Ok-add.ensures.kept)
