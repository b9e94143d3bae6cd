use Rattle.std.proofs.Common.{sym}
use Rattle.pv_expr_forms.proofs.follows.follow_of.Goals as goal

pub returns-then-ends_operand : goal.returns-then-ends_operand
returns-then-ends_operand c = rw c.in-Mark.is (sym (c.ends_operand.ensures c.if-ends_operand.true))
