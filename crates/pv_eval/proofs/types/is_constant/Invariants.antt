use Rattle.std.proofs.Common.{◌≡◌}
use Rattle.pv_types.specs.Known.{tree}
use Rattle.pv_eval.specs.TypeForms.{is_constant}
use Rattle.pv_eval.proofs.types.is_constant.Given as goal

abbrev pub invariant-layers : goal.invariant-layers
invariant-layers l = is_constant (tree l.types l.at.0) ≡ is_constant (tree l.types l.initial.at.0)

abbrev pub decreases-layers : goal.decreases-layers
decreases-layers l = l.at.0
