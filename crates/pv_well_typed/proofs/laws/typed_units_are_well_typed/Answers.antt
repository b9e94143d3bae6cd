use Rattle.pv_well_typed.proofs.LexedTokens.{typed-lexed}
use Rattle.pv_well_typed.proofs.laws.typed_units_are_well_typed.Goals as goal

pub returns : goal.returns
returns c = record { typed = λ source t ds v checked. typed-lexed source t ds v checked }
