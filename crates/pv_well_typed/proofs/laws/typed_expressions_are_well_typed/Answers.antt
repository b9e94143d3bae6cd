use Rattle.pv_well_typed.proofs.Walk.{well-typed}
use Rattle.pv_well_typed.proofs.laws.typed_expressions_are_well_typed.Goals as goal

pub returns : goal.returns
returns c = record { typed = λ v os e s a done evaluated typing later. well-typed v os done e s a typing evaluated later }
