use Rattle.pv_laws.proofs.Bounds.{run-stays}
use Rattle.pv_laws.proofs.laws.instances_stay.Goals as goal

pub returns : goal.returns
returns c = record { stay = λ u sides zap script n m le. (run-stays u sides zap script n m le).0 }
