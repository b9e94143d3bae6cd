use Rattle.std.proofs.Common.{◌≡◌, drop}
use Rattle.pv_types.specs.Known.{Known}
use Rattle.pv_check.specs.Stepping.{steps_in}
use Rattle.pv_unit.specs.DeclarationParts.{has_unsized}
use Rattle.pv_unit.proofs.declarators.has_unsized.Given as goal

abbrev pub invariant-loop-x : goal.invariant-loop-x
invariant-loop-x l = (m : Known) → has_unsized (steps_in m (drop l.x-index l.steps)) ≡ has_unsized (steps_in m l.steps)
