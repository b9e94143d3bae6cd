use Rattle.pv_exec.proofs.Settling.Laws.{late-law, sooner-law}
use Rattle.pv_exec.proofs.laws.late_settling_is_right.Goals as goal

pub returns-clause-same : goal.returns-clause-same
returns-clause-same c = late-law

pub returns-clause-sooner : goal.returns-clause-sooner
returns-clause-sooner c = sooner-law
