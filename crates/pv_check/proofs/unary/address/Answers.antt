use Rattle.pv_check.proofs.Keeping.{kept_trans}
use Rattle.pv_check.proofs.unary.address.Goals as goal

pub under_address-requires-clause-known : goal.under_address-requires-clause-known
under_address-requires-clause-known c = c.in-Ok.ensures.kept.grown.known c.requires.known

pub returns-clause-node : goal.returns-clause-node
returns-clause-node c = c.in-Ok-add.ensures.node

pub returns-clause-kept : goal.returns-clause-kept
returns-clause-kept c = kept_trans _ _ _ c.in-Ok.ensures.kept (kept_trans _ _ _ c.in-Ok-under_address.ensures.kept c.in-Ok-add.ensures.kept)
