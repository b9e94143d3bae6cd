use Rattle.std.proofs.Common.{◌≡◌, ℕ, List, drop, false}
use Rattle.pv_check.specs.Open.{state_of}
use Rattle.pv_unit.specs.Units.{first_unresolved}
use Rattle.pv_unit.proofs.resolving.unresolved.Given as goal

abbrev pub invariant-loop-i : goal.invariant-loop-i
invariant-loop-i l = (texts : List (List ℕ)) → first_unresolved (state_of texts false l.s l.into) (drop l.i l.outer.entities) ≡ first_unresolved (state_of texts false l.s l.into) l.outer.entities
