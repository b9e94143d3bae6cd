use Rattle.pvwhere.proofs.OneLemmas as lemmas
use Rattle.pvwhere.proofs.telling.one_answer.Goals as goal

pub returns-clause-some : goal.returns-clause-some
returns-clause-some c = lemmas.some_answer

pub returns-clause-one : goal.returns-clause-one
returns-clause-one c = lemmas.one_answer
