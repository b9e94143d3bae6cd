use Rattle.std.proofs.Common.{◌≡◌}
use Rattle.pv_types.specs.Known.{tree}
use Rattle.pv_eval.specs.TypeForms.{pointed_to}
use Rattle.pv_types.specs.Sorts.{is_pointer}
use Rattle.pv_eval.proofs.types.pointee.Given as goal

abbrev pub invariant-layers : goal.invariant-layers
invariant-layers l =
    (is_pointer (tree l.types l.at.0) ≡ is_pointer (tree l.types l.initial.at.0))
    × (pointed_to (tree l.types l.at.0) ≡ pointed_to (tree l.types l.initial.at.0))

abbrev pub decreases-layers : goal.decreases-layers
decreases-layers l = l.at.0
