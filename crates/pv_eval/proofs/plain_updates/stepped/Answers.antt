use Rattle.std.proofs.Common.{sym, ap, ◌∙◌, subst}
use Rattle.std.specs.Prelude.{pos, true}
use Rattle.pv_types.specs.Known.{Known, tree}
use Rattle.pv_typed.specs.TypedTree.{type_of}
use Rattle.pv_typed.specs.NodeTrees.{expression_at}
use Rattle.pv_world.specs.Worths.{int}
use Rattle.pv_eval.specs.TypeForms.{shape_of}
use Rattle.pv_types.specs.Sorts.{is_pointer}
use Rattle.pv_eval.specs.Sizes.{element_in}
use Rattle.pv_eval.specs.Operations.{Moves}
use Rattle.pv_eval.specs.Plainly.{GivesAt, StepsTo, found_worth}
use Rattle.pv_eval.proofs.PlainSteps.{some_map}
use Rattle.pv_eval.proofs.PlainUpdates.{steps_pointer}
use Rattle.pv_eval.proofs.plain_updates.stepped.Goals as goal

pub stepped_integer-requires : goal.stepped_integer-requires
stepped_integer-requires c = ap shape_of (sym c.type_of-t.ensures.tree) ∙ ap (λ (m : Known). shape_of (tree m c.type_of-t.result.0)) (sym c.types.ensures) ∙ sym c.in-Int.ensures

pub returns-in_ok-size-in-Pointer : goal.returns-in_ok-size-in-Pointer
returns-in_ok-size-in-Pointer c =
    let u = c.args.unit.now in
    let w = c.args.world.now in
    let t = type_of (expression_at u c.args.n) in
    let v = found_worth c.args.v in
    let size = c.in_ok-size-in-Pointer.size in
    some_map (λ q. GivesAt w (λ b. Moves c.down.result true size v (int (pos 1))) (found_worth q)) (λ q. StepsTo u w t c.args.o v (found_worth q)) c.element.result
    (λ q g. steps_pointer u w t c.args.o v (found_worth q) size (ap is_pointer (sym c.type_of-t.ensures.tree) ∙ c.in_ok-size-in-Pointer.ensures.pointer) (c.in_ok-size-in-Pointer.ensures.size ∙ ap (element_in u.known) c.type_of-t.ensures.tree)
    (subst (λ d. GivesAt w (λ b. Moves d true size v (int (pos 1))) (found_worth q)) c.down.ensures g))
    c.element.ensures
