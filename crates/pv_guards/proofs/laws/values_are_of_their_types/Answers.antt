use Rattle.pv_guards.proofs.Concluding.{its-type}
use Rattle.pv_guards.proofs.laws.values_are_of_their_types.Goals as goal

pub returns : goal.returns
returns c = record { typed = λ b os call agree x h. its-type b os call call agree x h }
