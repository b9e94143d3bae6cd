use Rattle.std.proofs.Common.{◌≡◌, ◌-◌, ◌≤◌, length, take}
use Rattle.pv_types.specs.Known.{trees, tys_in}
use Rattle.pv_types.specs.Formed.{AllBelow}
use Rattle.pv_check.specs.Declarators.{parameters_shown}
use Rattle.pv_check.specs.Derivations.{parameter_types}
use Rattle.pv_check.proofs.parameters.unqualified_types.Given as goal

abbrev pub invariant-loop-i : goal.invariant-loop-i
invariant-loop-i l =
    (l.i ≤ length l.ps) × AllBelow (length l.types.terms) l.list.items
    × (tys_in (trees l.types) l.list.items ≡ parameter_types (parameters_shown l.types (take l.i l.ps)))

abbrev pub decreases-loop-i : goal.decreases-loop-i
decreases-loop-i l = length l.ps - l.i
