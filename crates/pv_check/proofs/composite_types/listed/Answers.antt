use Rattle.std.proofs.Common.{◌∙◌, ap}
use Rattle.pv_types.specs.Known.{trees, tys_in}
use Rattle.pv_check.proofs.Joining.{tys_stand}
use Rattle.pv_check.proofs.composite_types.listed.Goals as goal

pub returns-clause-list : goal.returns-clause-list
returns-clause-list c = ap (tys_in (trees c.params.new.self)) c.in_ok-p.ensures.list ∙ tys_stand c.args.types.now c.params.new.self c.args.list.items c.in_ok-p.ensures.stands c.requires.known
