use Rattle.std.proofs.Common.{sym, ap, ◌∙◌}
use Rattle.pv_types.specs.Sorts.{is_pointer}
use Rattle.pv_eval.specs.Sizes.{element_in}
use Rattle.pv_eval.specs.Plainly.{found_worth}
use Rattle.pv_eval.proofs.PlainPlaces.{subscript_some}
use Rattle.pv_eval.proofs.plain_places.subscript.Goals as goal

pub returns : goal.returns
returns c = λ t d.
    let u = c.args.unit.now in
    subscript_some u c.args.world.now c.args.a d c.in_ok-size.size (found_worth c.args.first) (found_worth c.args.second) (ap is_pointer (sym c.type_of.ensures.tree) ∙ c.in_ok-size.ensures.pointer) t c.element.result
    (c.in_ok-size.ensures.size ∙ ap (element_in u.known) c.type_of.ensures.tree) c.element.ensures
