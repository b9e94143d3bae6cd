use Rattle.pv_unit.proofs.MainRows.{grows_lists}
use Rattle.pv_unit.proofs.mains.no_parameters.Goals as goal

pub returns-clause-grows : goal.returns-clause-grows
returns-clause-grows c = grows_lists c.args.types.now c.params.new.self c.in_ok-p.ensures.extends c.in_ok-p.ensures.stands c.in_ok-p.ensures.completed c.in_ok-p.ensures.parameters
