use Rattle.pvwhere.proofs.PlaceLemmas.{begins_in_unit}
use Rattle.pvwhere.proofs.places.place_in_unit.Goals as goal

pub behind-requires-clause-begins : goal.behind-requires-clause-begins
behind-requires-clause-begins c = begins_in_unit _ _ _ _ c.in-Constraint.is c.requires.refused
