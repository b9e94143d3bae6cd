use Rattle.pv_serve.proofs.JudgedLemmas as judged
use Rattle.pv_serve.proofs.judging.one_verdict.Goals as goal

pub returns-clause-some : goal.returns-clause-some
returns-clause-some c = judged.some_verdict

pub returns-clause-one : goal.returns-clause-one
returns-clause-one c = judged.one_verdict
