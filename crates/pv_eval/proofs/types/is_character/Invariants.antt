use Rattle.std.proofs.Common.{◌≡◌}
use Rattle.pv_types.specs.Known.{tree}
use Rattle.pv_types.specs.Sorts.{is_character}
use Rattle.pv_eval.proofs.types.is_character.Given as goal

abbrev pub invariant-layers : goal.invariant-layers
invariant-layers l = is_character (tree l.types l.at.0) ≡ is_character (tree l.types l.initial.at.0)

abbrev pub decreases-layers : goal.decreases-layers
decreases-layers l = l.at.0
