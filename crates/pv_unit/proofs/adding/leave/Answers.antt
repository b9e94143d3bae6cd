use Rattle.pv_unit.proofs.BlockMade.{left_state}
use Rattle.pv_unit.proofs.adding.leave.Goals as goal

pub returns-clause-state : goal.returns-clause-state
returns-clause-state c = λ texts. left_state texts c.args.into.now c.args.s.now c.leave.new.self c.leave.ensures
