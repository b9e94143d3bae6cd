use Rattle.std.proofs.Common.{ap, ◌∙◌, subst}
use Rattle.pv_typed.specs.NodeTrees.{expression_at}
use Rattle.pv_world.specs.Worlds.{Worth}
use Rattle.pv_world.specs.Worths.{pointer_of}
use Rattle.pv_eval.specs.Sizes.{element_in}
use Rattle.pv_eval.specs.Plainly.{Yields, found_worth}
use Rattle.pv_eval.proofs.PlainUpdates.{performs_pointer}
use Rattle.pv_eval.proofs.plain_updates.pointer_assign.Goals as goal

pub returns-then-assigned-clause-some : goal.returns-then-assigned-clause-some
returns-then-assigned-clause-some c =
    let u = c.args.unit.now in
    let w = c.args.world.now in
    let place = found_worth c.in_ok-place.place in
    performs_pointer u w c.assigned.new.world c.args.n c.args.a c.args.d c.args.sign c.minus.result c.in_ok-size.size (pointer_of place) (found_worth c.in_ok-v.v) (found_worth c.in_ok-second.second) (found_worth c.in_ok-z.z) c.requires.form
    c.minus.ensures (c.in_ok-size.ensures.size ∙ ap (element_in u.known) c.type_of.ensures.tree)
    (subst (λ (v : Worth). Yields u w (expression_at u c.args.a) v) c.in_ok-v.ensures.place c.in_ok-place.ensures) c.in_ok-v.ensures.reads c.in_ok-second.ensures c.in_ok-z.ensures
    (c.assigned.ensures.stored c.if-assigned.true)
