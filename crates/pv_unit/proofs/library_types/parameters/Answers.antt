use Rattle.std.proofs.Common.{◌∙◌, ap}
use Rattle.pv_types.specs.Formed.{are_adjusted}
use Rattle.pv_types.specs.Known.{trees, tys_in}
use Rattle.pv_check.proofs.Growth.{then_grows}
use Rattle.pv_unit.proofs.ListedTypes.{simple_adjusted, tys_stay}
use Rattle.pv_unit.proofs.MainRows.{grows_lists}
use Rattle.pv_unit.proofs.library_types.parameters.Goals as goal

pub params-requires-clause-adjusted : goal.params-requires-clause-adjusted
params-requires-clause-adjusted c = ap are_adjusted c.in_ok-list.ensures.trees ∙ simple_adjusted c.args.xs.now

pub returns-clause-parameters : goal.returns-clause-parameters
returns-clause-parameters c =
    ap (tys_in (trees c.params.new.self)) c.in_ok-p.ensures.list
    ∙ tys_stay c.listed.new.types c.params.new.self c.in_ok-list.list.items c.in_ok-p.ensures.stands c.in_ok-list.ensures.below ∙ c.in_ok-list.ensures.trees

pub returns-clause-grows : goal.returns-clause-grows
returns-clause-grows c =
    then_grows c.args.types.now c.listed.new.types c.params.new.self c.in_ok-list.ensures.grows (grows_lists c.listed.new.types c.params.new.self c.in_ok-p.ensures.extends c.in_ok-p.ensures.stands c.in_ok-p.ensures.completed c.in_ok-p.ensures.parameters)
