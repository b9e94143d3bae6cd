use Rattle.std.proofs.Common.{◌≡◌, ◌-◌, ◌≤◌, length, drop}
use Rattle.pv_check.specs.Declarators.{parameters_shown}
use Rattle.pv_check.specs.Derivations.{no_void}
use Rattle.pv_check.proofs.parameters.no_void.Given as goal

abbrev pub invariant-loop-i : goal.invariant-loop-i
invariant-loop-i l = (l.i ≤ length l.ps) × (no_void (parameters_shown l.types l.ps) ≡ no_void (parameters_shown l.types (drop l.i l.ps)))

abbrev pub decreases-loop-i : goal.decreases-loop-i
decreases-loop-i l = length l.ps - l.i
