use Rattle.pv_journal.proofs.Walking.{first_there, first_lacks}
use Rattle.pv_journal.proofs.checking.first_line.Goals as goal

pub returns-in-Some : goal.returns-in-Some
returns-in-Some c = first_there c.args.text.now c.in-Some.end c.in-Some.ensures.place

pub returns-in-None : goal.returns-in-None
returns-in-None c = first_lacks c.args.text.now c.in-None.ensures.place
