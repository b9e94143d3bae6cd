use Rattle.std.proofs.Common.{None}
use Rattle.pv_tree.proofs.Kept.{extends_same}
use Rattle.pv_expr_forms.proofs.Answered.{moved}
use Rattle.pv_expr_forms.proofs.Firsts.{measured_is}
use Rattle.pv_expr.proofs.reading.measure.Goals as goal

pub returns-in-Some : goal.returns-in-Some
returns-in-Some g c = record {
  keeps = c.found.ensures.keeps;
  answer = moved _ _ _ _ _ (measured_is _ _ _ _ _ c.in-Some.ensures.0) c.found.ensures.ok;
}

pub returns-in-None : goal.returns-in-None
returns-in-None g c = record {
  keeps = extends_same _;
  answer = record { is = measured_is _ _ _ _ None c.in-None.ensures; there = tt };
}

pub type_closed-requires : goal.type_closed-requires
type_closed-requires g c = c.requires
