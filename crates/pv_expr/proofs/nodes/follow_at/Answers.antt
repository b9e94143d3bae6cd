use Rattle.std.proofs.Common.{sym, arith}
use Rattle.pv_expr_forms.proofs.Readings.{longer_deep, longer_end, longer_other, longer_follows}
use Rattle.pv_expr.proofs.Goes.{longer_low, longer_loose}
use Rattle.pv_expr.proofs.nodes.follow_at.Goals.{then-rank-level-via-then-rank-level, then-rank-level-via-else-rank-level+then-rank_of-left}
use Rattle.pv_expr.proofs.nodes.follow_at.Goals as goal

pub returns-then-depth_of-below : goal.returns-then-depth_of-below
returns-then-depth_of-below c names r = longer_deep names r _ _ _ _ (omega arith)

pub returns-in_default : goal.returns-in_default
returns-in_default c names r = longer_end names r _ _ _ _ c.in_default.ensures

pub returns-in_default-follow_of : goal.returns-in_default-follow_of
returns-in_default-follow_of c names r = longer_other names r _ _ _ c.in-Some.token _ _ c.in-Some.ensures.0 (omega arith) (sym c.in_default-follow_of.ensures)

pub returns-then-rank-level : goal.returns-then-rank-level
returns-then-rank-level c names r = elim c.then-rank-level.branch [
  | then-rank-level-via-then-rank-level w ↦ longer_low names r _ _ _ c.in-Some.token _ _ c.in-Some.ensures.0 (omega arith) c.in-Some-follow_of.follow (sym c.in-Some-follow_of.ensures) (omega arith)
  | then-rank-level-via-else-rank-level+then-rank_of-left w ↦ longer_loose names r _ _ _ c.in-Some.token _ _ c.in-Some.ensures.0 (omega arith) c.in-Some-follow_of.follow (sym c.in-Some-follow_of.ensures) (omega arith) (omega arith)
]

pub returns : goal.returns
returns c = (λ names r. longer_follows names r _ _ _ c.in-Some.token _ _ c.in-Some.ensures.0 (omega arith) c.in-Some-follow_of.follow (sym c.in-Some-follow_of.ensures) (omega arith) (omega arith), c.in-Some.ensures.1, c.in-Some.ensures.2)
