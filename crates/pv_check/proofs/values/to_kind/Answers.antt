use Rattle.pv_check.proofs.Keeping.{kept_trans}
use Rattle.pv_check.proofs.values.to_kind.Goals as goal

pub converted-requires-clause-known : goal.converted-requires-clause-known
converted-requires-clause-known c = c.in-Ok.ensures.kept.grown.known c.requires.known

pub returns-clause-node : goal.returns-clause-node
returns-clause-node c = c.in-Ok-converted.ensures.node

pub returns-clause-kept : goal.returns-clause-kept
returns-clause-kept c = kept_trans _ _ _ c.in-Ok.ensures.kept c.in-Ok-converted.ensures.kept
