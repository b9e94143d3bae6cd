use Rattle.pv_shown.specs.Recorded.{is_of}
use Rattle.pv_shown.proofs.Places.{found_at}
use Rattle.pv_shown.proofs.past.searched.Goals as goal

pub returns-clause-found : goal.returns-clause-found
returns-clause-found c = found_at (is_of c.args.names.now c.args.key) c.args.lives.now c.first_of.result c.first_of.ensures.place
