use Rattle.pv_check.proofs.Keeping.{kept_trans}
use Rattle.pv_check.proofs.members.member_from.Goals as goal

pub returns-then-is_lvalue-clause-node : goal.returns-then-is_lvalue-clause-node
returns-then-is_lvalue-clause-node c = c.in-Ok-add.ensures.node

pub returns-then-is_lvalue-clause-kept : goal.returns-then-is_lvalue-clause-kept
returns-then-is_lvalue-clause-kept c = kept_trans _ _ _ c.in-Ok.ensures.kept c.in-Ok-add.ensures.kept
