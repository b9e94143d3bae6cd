use Rattle.pv_serve.proofs.Limits.{more_decides, fewer_decide}
use Rattle.pv_serve.proofs.judging.first_bytes_decide.Goals as goal

pub returns-clause-more : goal.returns-clause-more
returns-clause-more c = more_decides

pub returns-clause-fewer : goal.returns-clause-fewer
returns-clause-fewer c = fewer_decide
