use Rattle.std.proofs.Common.{◌≡◌, ℕ, List, drop, false}
use Rattle.pv_check.specs.Open.{state_of}
use Rattle.pv_check.specs.Raw.{Raw}
use Rattle.pv_unit.specs.HeadParts.{are_finished}
use Rattle.pv_unit.proofs.ending.are_finished.Given as goal

abbrev pub invariant-loop-i : goal.invariant-loop-i
invariant-loop-i l = (texts : List (List ℕ)) (s : Raw) → are_finished (state_of texts false s l.into) (drop l.i l.entities) ≡ are_finished (state_of texts false s l.into) l.entities
