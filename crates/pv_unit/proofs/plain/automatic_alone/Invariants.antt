use Rattle.std.proofs.Common.{◌≡◌, ◌≤◌, ℕ, List, false, length, drop, map}
use Rattle.pv_check.specs.Open.{state_of}
use Rattle.pv_check.specs.Raw.{raw_innermost, name_shown}
use Rattle.pv_unit.specs.StatementParts.{are_automatic}
use Rattle.pv_unit.proofs.plain.automatic_alone.Given as goal

abbrev pub invariant-loop-i : goal.invariant-loop-i
invariant-loop-i l =
    (l.i ≤ length (raw_innermost l.s.scopes).names)
    × ((texts : List (List ℕ)) → are_automatic (state_of texts false l.s l.into) (map (name_shown l.into.known) (drop l.i (raw_innermost l.s.scopes).names)) ≡ are_automatic (state_of texts false l.s l.into) (map (name_shown l.into.known) (raw_innermost l.s.scopes).names))
