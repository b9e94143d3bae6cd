use Rattle.pv_guards.proofs.Survivors.{first-there}
use Rattle.pv_guards.proofs.laws.uses_find_instances.Goals as goal

pub returns : goal.returns
returns c = record { survivor = λ T p t tried h e. first-there T p t tried h e }
