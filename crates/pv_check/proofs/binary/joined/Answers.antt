use Rattle.pv_check.proofs.Keeping.{kept_trans}
use Rattle.pv_check.proofs.binary.joined.Goals as goal

pub to_kind-requires-clause-known : goal.to_kind-requires-clause-known
to_kind-requires-clause-known c = c.in-Ok.ensures.kept.grown.known c.requires.known

pub to_kind-requires-2-clause-known : goal.to_kind-requires-2-clause-known
to_kind-requires-2-clause-known c = c.in-Ok-to_kind.ensures.kept.grown.known (c.in-Ok.ensures.kept.grown.known c.requires.known)

pub returns-clause-node : goal.returns-clause-node
returns-clause-node c = c.in-Ok-add.ensures.node

pub returns-clause-kept : goal.returns-clause-kept
returns-clause-kept c = kept_trans _ _ _ c.in-Ok.ensures.kept (kept_trans _ _ _ c.in-Ok-to_kind.ensures.kept (kept_trans _ _ _ c.in-Ok-to_kind-2.ensures.kept c.in-Ok-add.ensures.kept))
