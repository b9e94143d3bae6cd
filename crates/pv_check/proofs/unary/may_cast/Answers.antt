use Rattle.std.proofs.Common.{sym}
use Rattle.pv_check.proofs.unary.may_cast.Goals as goal

pub returns-then-are_integers : goal.returns-then-are_integers
returns-then-are_integers c = sym (c.are_integers.ensures c.if-are_integers.true _)
