use Rattle.pv_serve.proofs.RepliesLemmas.{replied_by_words}
use Rattle.pv_replay.specs.Answers.{service}
use Rattle.pv_replay.proofs.CauseLemmas.{replied_by_job, writes_journals}
use Rattle.pv_replay.proofs.calling.replay.Goals as goal

pub returns-in-Some-Write-clause-answered : goal.returns-in-Some-Write-clause-answered
returns-in-Some-Write-clause-answered g c = replied_by_job _ _ (rw c.in-Some-Write.field-0-is at c.in-Some-Write.ensures.words) c.write_journal.ensures.served

pub returns-in-Some-Write-clause-accepted : goal.returns-in-Some-Write-clause-accepted
returns-in-Some-Write-clause-accepted g c =
    writes_journals _ _ _ _ _ _ _ (rw c.in-Some-Write.field-0-is at c.in-Some-Write.ensures.words) c.write_journal.ensures.served

pub returns-in-Some-Check-clause-answered : goal.returns-in-Some-Check-clause-answered
returns-in-Some-Check-clause-answered g c = replied_by_job _ _ (rw c.in-Some-Check.field-0-is at c.in-Some-Check.ensures.words) c.check_journal.ensures.served

pub returns-in-Some-Check-clause-accepted : goal.returns-in-Some-Check-clause-accepted
returns-in-Some-Check-clause-accepted g c =
    writes_journals _ _ _ _ _ _ _ (rw c.in-Some-Check.field-0-is at c.in-Some-Check.ensures.words) c.check_journal.ensures.served

pub returns-in-None-clause-answered : goal.returns-in-None-clause-answered
returns-in-None-clause-answered g c = replied_by_words service _ c.in-None.ensures.words c.tell.ensures
