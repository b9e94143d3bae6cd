use Rattle.std.proofs.Common.{◌≡◌}
use Rattle.pv_types.specs.Known.{tree}
use Rattle.pv_eval.specs.TypeForms.{shape_of}
use Rattle.pv_eval.proofs.types.shape.Given as goal

abbrev pub invariant-layers : goal.invariant-layers
invariant-layers l = shape_of (tree l.types l.at.0) ≡ shape_of (tree l.types l.initial.at.0)

abbrev pub decreases-layers : goal.decreases-layers
decreases-layers l = l.at.0
