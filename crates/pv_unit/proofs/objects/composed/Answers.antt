use Rattle.pv_check.proofs.Opening.{open_goes}
use Rattle.pv_unit.proofs.objects.composed.Goals as goal

pub returns-clause-opened : goal.returns-clause-opened
returns-clause-opened c = open_goes c.args.into.now c.composite_in.new.into c.args.s.now c.requires.opened c.in_ok-t.ensures.goes
