use Rattle.std.proofs.Common.{◌≡◌}
use Rattle.pv_types.specs.Known.{tree}
use Rattle.pv_eval.specs.Arguments.{argument_shape}
use Rattle.pv_eval.proofs.asking.argument_shape.Given as goal

abbrev pub invariant-layers : goal.invariant-layers
invariant-layers l = argument_shape (tree l.types l.at.0) ≡ argument_shape (tree l.types l.initial.at.0)

abbrev pub decreases-layers : goal.decreases-layers
decreases-layers l = l.at.0
