use Rattle.pvwhere.proofs.PlaceLemmas as lemmas
use Rattle.pvwhere.proofs.places.one_place.Goals as goal

pub returns-clause-some : goal.returns-clause-some
returns-clause-some c = lemmas.some_place

pub returns-clause-one : goal.returns-clause-one
returns-clause-one c = lemmas.one_place

pub returns-clause-within : goal.returns-clause-within
returns-clause-within c = lemmas.place_within
