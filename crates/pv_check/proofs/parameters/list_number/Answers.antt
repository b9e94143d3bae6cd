use Rattle.std.proofs.Common.{ap, ◌∙◌}
use Rattle.pv_types.specs.Known.{trees, tys_in}
use Rattle.pv_check.proofs.TypeLists.{tys_stay}
use Rattle.pv_check.proofs.parameters.list_number.Goals as goal

pub returns-clause-parameters : goal.returns-clause-parameters
returns-clause-parameters c =
    ap (tys_in (trees c.params.new.self)) c.in_ok-p.ensures.list
    ∙ tys_stay c.args.types.now c.params.new.self c.args.list.items c.in_ok-p.ensures.stands c.requires.known
