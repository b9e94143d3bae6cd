use Rattle.pv_replay.proofs.CheckLemmas as lemmas
use Rattle.pv_replay.proofs.checking.one_answer.Goals as goal

pub returns : goal.returns
returns c = lemmas.one_answer c.one_verdict.ensures.lines c.one_verdict.ensures.line c.one_verdict.ensures.not_both
