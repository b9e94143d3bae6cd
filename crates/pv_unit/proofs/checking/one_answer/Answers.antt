use Rattle.pv_unit.proofs.Answering.{one_answer, some_answer}
use Rattle.pv_unit.proofs.checking.one_answer.Goals as goal

pub returns-clause-some : goal.returns-clause-some
returns-clause-some c = some_answer

pub returns-clause-one : goal.returns-clause-one
returns-clause-one c = one_answer
