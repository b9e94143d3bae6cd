use Rattle.pv_journal.proofs.Exact.{one_journal, one_line, not_both}
use Rattle.pv_journal.proofs.laws.one_verdict.Goals as goal

pub returns-clause-lines : goal.returns-clause-lines
returns-clause-lines c = one_journal

pub returns-clause-line : goal.returns-clause-line
returns-clause-line c = one_line

pub returns-clause-not_both : goal.returns-clause-not_both
returns-clause-not_both c = not_both
