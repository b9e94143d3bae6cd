use Rattle.pv_exec.proofs.Cutting.{cut-law, due-law, met-law}
use Rattle.pv_exec.proofs.laws.lesser_bound_cuts.Goals as goal

pub returns-clause-cut : goal.returns-clause-cut
returns-clause-cut c = cut-law

pub returns-clause-due : goal.returns-clause-due
returns-clause-due c = due-law

pub returns-clause-met : goal.returns-clause-met
returns-clause-met c = met-law
