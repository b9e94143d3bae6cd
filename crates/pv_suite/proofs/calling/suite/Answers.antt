use Rattle.pv_serve.proofs.RepliesLemmas.{replied_by, replied_by_words}
use Rattle.pv_suite.specs.Causes.{service}
use Rattle.pv_suite.proofs.calling.suite.Goals as goal

pub returns-in-Some-clause-answered : goal.returns-in-Some-clause-answered
returns-in-Some-clause-answered g c = replied_by service _ _ c.in-Some.ensures c.suite_in.ensures.served

pub returns-in-None-clause-answered : goal.returns-in-None-clause-answered
returns-in-None-clause-answered g c = replied_by_words service _ c.in-None.ensures c.tell.ensures
