use Rattle.pv_laws.proofs.Numbered.{run-laid}
use Rattle.pv_laws.proofs.laws.live_instances_lie_apart.Goals as goal

pub returns : goal.returns
returns c = record { apart = λ u sides zap script n. (run-laid u sides zap script n).apart }
