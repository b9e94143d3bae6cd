use Rattle.pv_journal_laws.proofs.Running.{run_tells, run_tells_first}
use Rattle.pv_journal_laws.proofs.laws.events_obey.Goals as goal

pub returns-clause-obey : goal.returns-clause-obey
returns-clause-obey c = run_tells

pub returns-clause-first : goal.returns-clause-first
returns-clause-first c = run_tells_first
