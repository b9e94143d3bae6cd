use Rattle.pv_check.proofs.Keeping.{kept_trans}
use Rattle.pv_check.proofs.conditional.chosen.Goals as goal

pub converted-requires-2-clause-known : goal.converted-requires-2-clause-known
converted-requires-2-clause-known c = c.in-Ok.ensures.kept.grown.known c.requires.known

pub returns-clause-node : goal.returns-clause-node
returns-clause-node c = c.in-Ok-add.ensures.node

pub returns-clause-kept : goal.returns-clause-kept
returns-clause-kept c = kept_trans _ _ _ c.in-Ok.ensures.kept (kept_trans _ _ _ c.in-Ok-converted.ensures.kept c.in-Ok-add.ensures.kept)
