use Rattle.std.proofs.Common.{arith}
use Rattle.pv_expr_forms.proofs.Naming.{closed_without, closed_deep, closed_is}
use Rattle.pv_expr.proofs.openings.type_closed.Goals as goal

pub returns-in_default : goal.returns-in_default
returns-in_default g c = closed_without _ _ _ c.in_default.ensures

pub returns-then-type_depth-below : goal.returns-then-type_depth-below
returns-then-type_depth-below g c = closed_deep _ _ _ _ _ c.in-Some.ensures.0 (omega arith)

pub returns-in-Some-after_close : goal.returns-in-Some-after_close
returns-in-Some-after_close g c = (closed_is _ _ _ _ _ _ c.in-Some.ensures.0 (omega arith) c.in-Some-after_close.ensures.0, c.in-Some.ensures.1, c.in-Some-after_close.ensures.1)

pub returns-in-None : goal.returns-in-None
returns-in-None g c = closed_is _ _ _ _ _ _ c.in-Some.ensures.0 (omega arith) c.in-None.ensures
