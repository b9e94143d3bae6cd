use Rattle.pv_laws.proofs.Bounds.{run-stays}
use Rattle.pv_laws.proofs.laws.pairs_stay_settled.Goals as goal

pub returns : goal.returns
returns c = record { settle = λ u sides zap script n m le. (run-stays u sides zap script n m le).1 }
