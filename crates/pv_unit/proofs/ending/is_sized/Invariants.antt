use Rattle.std.proofs.Common.{◌≡◌, ◌<◌, length}
use Rattle.pv_types.specs.Known.{tree}
use Rattle.pv_unit.specs.Definitions.{is_sized}
use Rattle.pv_unit.proofs.ending.is_sized.Given as goal

abbrev pub invariant-loop-element : goal.invariant-loop-element
invariant-loop-element l = (l.at.0 < length l.types.terms) × (is_sized (tree l.types l.at.0) ≡ is_sized (tree l.types l.initial.at.0))

abbrev pub decreases-loop-element : goal.decreases-loop-element
decreases-loop-element l = l.at.0
