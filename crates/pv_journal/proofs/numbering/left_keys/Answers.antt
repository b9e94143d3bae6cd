use Rattle.pv_journal.proofs.Added.{second_called, second_none}
use Rattle.pv_journal.proofs.numbering.left_keys.Goals as goal

pub returns-in_ok-first-in-Some-clause-second : goal.returns-in_ok-first-in-Some-clause-second
returns-in_ok-first-in-Some-clause-second c = second_called _ _ _ _ c.in-Some.is c.in_ok-first-in-Some.ensures.second

pub returns-in_ok-first-in-None-clause-second : goal.returns-in_ok-first-in-None-clause-second
returns-in_ok-first-in-None-clause-second c = second_none _ _ c.in-None.is
