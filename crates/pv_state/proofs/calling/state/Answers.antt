use Rattle.pv_serve.proofs.RepliesLemmas.{replied_by, replied_by_words}
use Rattle.pv_state.specs.Answers.{service}
use Rattle.pv_state.proofs.calling.state.Goals as goal

pub returns-in-Some-clause-answered : goal.returns-in-Some-clause-answered
returns-in-Some-clause-answered g c = replied_by service _ _ c.in-Some.ensures.asked c.state_files.ensures.served

pub returns-in-None-clause-answered : goal.returns-in-None-clause-answered
returns-in-None-clause-answered g c = replied_by_words service _ c.in-None.ensures.asked c.tell.ensures
