use Rattle.std.proofs.Common.{sym, ap, ◌∙◌}
use Rattle.pv_types.specs.Known.{Known, tree}
use Rattle.pv_typed.specs.TypedTree.{type_of}
use Rattle.pv_typed.specs.NodeTrees.{expression_at}
use Rattle.pv_types.specs.Sorts.{is_pointer}
use Rattle.pv_eval.specs.Sizes.{element_in}
use Rattle.pv_eval.specs.Plainly.{found_worth}
use Rattle.pv_eval.proofs.PlainPlaces.{summed_some}
use Rattle.pv_eval.proofs.plain_places.summed.Goals as goal

pub returns : goal.returns
returns c = λ d.
    let u = c.args.unit.now in
    summed_some u c.args.world.now c.args.a d c.in_ok-size.size (found_worth c.args.first) (found_worth c.args.second)
    (ap is_pointer (sym c.type_of.ensures.tree) ∙ ap (λ (m : Known). is_pointer (tree m c.type_of.result.0)) (sym c.types.ensures) ∙ c.in_ok-pointee.ensures.pointer)
    (type_of (expression_at u c.args.n)) c.args.sign c.minus.result c.element.result c.minus.ensures
    (c.in_ok-size.ensures.size ∙ ap (element_in u.known) c.type_of-2.ensures.tree) c.element.ensures
