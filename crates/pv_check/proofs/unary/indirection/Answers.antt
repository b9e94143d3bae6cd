use Rattle.pv_check.proofs.Keeping.{kept_trans}
use Rattle.pv_check.proofs.unary.indirection.Goals as goal

pub returns-then-is_void-clause-node : goal.returns-then-is_void-clause-node
returns-then-is_void-clause-node c = c.in-Ok-add.ensures.node

pub returns-then-is_void-clause-kept : goal.returns-then-is_void-clause-kept
returns-then-is_void-clause-kept c = kept_trans _ _ _ c.in-Ok.ensures.kept c.in-Ok-add.ensures.kept
