use Rattle.pv_check.proofs.Keeping.{kept_trans}
use Rattle.pv_check.proofs.operators.order.Goals as goal

pub pointer_order-requires-clause-known : goal.pointer_order-requires-clause-known
pointer_order-requires-clause-known c = c.in-Ok.ensures.kept.grown.known c.requires.known

pub returns-clause-node : goal.returns-clause-node
returns-clause-node c = c.in-Ok-pointer_order.ensures.node

pub returns-clause-kept : goal.returns-clause-kept
returns-clause-kept c = kept_trans _ _ _ c.in-Ok.ensures.kept c.in-Ok-pointer_order.ensures.kept
