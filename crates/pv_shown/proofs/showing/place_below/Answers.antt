use Rattle.std.proofs.Common.{ltb}
use Rattle.pv_shown.specs.declared.past.Life.{Life}
use Rattle.pv_shown.proofs.Places.{some_place, no_place}
use Rattle.pv_shown.proofs.showing.place_below.Goals as goal

pub returns-in-Some-clause-place : goal.returns-in-Some-clause-place
returns-in-Some-clause-place c = some_place (λ (y : Life). ltb c.args.base y.base) c.args.found.now c.in-Some.place c.in-Some.ensures

pub returns-in-None-clause-place : goal.returns-in-None-clause-place
returns-in-None-clause-place c = no_place (λ (y : Life). ltb c.args.base y.base) c.args.found.now c.in-None.ensures
