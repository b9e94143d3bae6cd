use Rattle.pv_verdicts.proofs.Programs.{program_outcome}
use Rattle.pv_verdicts.proofs.endings.every_run_has_an_outcome.Goals as goal

pub returns : goal.returns
returns c = record { outcome = λ source text script r u p sides zap n. program_outcome source text script u sides zap n p r }
