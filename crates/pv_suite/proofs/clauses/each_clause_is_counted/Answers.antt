use Rattle.pv_suite.proofs.ClauseLemmas.{counted, every}
use Rattle.pv_suite.proofs.clauses.each_clause_is_counted.Goals as goal

pub returns-clause-texts : goal.returns-clause-texts
returns-clause-texts c = counted

pub returns-clause-every : goal.returns-clause-every
returns-clause-every c = every
