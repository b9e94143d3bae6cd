use Rattle.pv_journal.proofs.Added.{called_still, more_both}
use Rattle.pv_journal.proofs.numbering.keys_of.Goals as goal

pub returns-in_err-second-clause-more : goal.returns-in_err-second-clause-more
returns-in_err-second-clause-more c = more_both _ _ _ c.key_of.ensures.more c.key_of-2.ensures.more

pub returns-clause-first : goal.returns-clause-first
returns-clause-first c = called_still _ _ _ _ c.key_of-2.ensures.more c.in_ok-first.ensures.called

pub returns-clause-more : goal.returns-clause-more
returns-clause-more c = more_both _ _ _ c.key_of.ensures.more c.key_of-2.ensures.more
