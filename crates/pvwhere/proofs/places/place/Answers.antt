use Rattle.pvwhere.proofs.PlaceLemmas.{refused_by, begins_by, place_of, places_of}
use Rattle.pvwhere.proofs.places.place.Goals as goal

pub behind-requires-clause-begins : goal.behind-requires-clause-begins
behind-requires-clause-begins c = begins_by _ _ _ c.in-Syntax.is c.requires.refused

pub place_in_unit-requires : goal.place_in_unit-requires
place_in_unit-requires c =
    record { short = c.requires.short; refused = rw (c.as_slice.ensures) (refused_by _ _ _ c.in-Check.is c.requires.refused) }

pub returns-in-Lex : goal.returns-in-Lex
returns-in-Lex c = place_of _ _ _ _ c.in-Lex.is (c.place_of_fault.ensures _)

pub returns-in-Check : goal.returns-in-Check
returns-in-Check c = places_of _ _ _ _ c.in-Check.is (rw c.as_slice.ensures at c.place_in_unit.ensures)
