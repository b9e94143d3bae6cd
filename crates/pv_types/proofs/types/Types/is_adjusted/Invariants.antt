use Rattle.std.proofs.Common.{◌≡◌, ◌<◌, length}
use Rattle.pv_types.specs.Adjusted.{is_adjusted}
use Rattle.pv_types.specs.Known.{tree}
use Rattle.pv_types.proofs.types.Types.is_adjusted.Given as goal

abbrev pub invariant-loop-inner : goal.invariant-loop-inner
invariant-loop-inner l = (l.at.0 < length l.self.terms) × (is_adjusted (tree l.self l.at.0) ≡ is_adjusted (tree l.self l.initial.at.0))

abbrev pub decreases-loop-inner : goal.decreases-loop-inner
decreases-loop-inner l = l.at.0
