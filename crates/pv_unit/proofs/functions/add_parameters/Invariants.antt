use Rattle.std.proofs.Common.{◌≡◌, ℕ, List, drop, false}
use Rattle.pv_check.specs.Declarators.{parameters_shown}
use Rattle.pv_check.specs.Open.{state_of}
use Rattle.pv_unit.specs.Functions.{with_parameters}
use Rattle.pv_unit.specs.Stated.{Moves}
use Rattle.pv_unit.proofs.functions.add_parameters.Given as goal

abbrev pub invariant-loop-p : goal.invariant-loop-p
invariant-loop-p l =
    Moves l.fn.into l.s l.into l.s
    × (l.into.known ≡ l.fn.into.known)
    × ((texts : List (List ℕ)) → with_parameters l.f (parameters_shown l.fn.into.known (drop l.p-index l.parameters)) (state_of texts false l.s l.into) ≡ with_parameters l.f (parameters_shown l.fn.into.known l.parameters) (state_of texts false l.s l.fn.into))
