use Rattle.pv_journal.proofs.Walking.{is_last_some, is_last_none}
use Rattle.pv_journal.proofs.checking.is_last.Goals as goal

pub returns-in-Some : goal.returns-in-Some
returns-in-Some c = is_last_some c.args.line.now c.in-Some.n c.args.count c.ranges.count.fits c.in-Some.ensures

pub returns-in-None : goal.returns-in-None
returns-in-None c = is_last_none c.args.line.now c.args.count c.ranges.count.fits c.in-None.ensures
