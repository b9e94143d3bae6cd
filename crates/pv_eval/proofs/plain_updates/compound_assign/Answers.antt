use Rattle.std.proofs.Common.{subst}
use Rattle.pv_typed.specs.NodeTrees.{expression_at}
use Rattle.pv_world.specs.Worlds.{Worth}
use Rattle.pv_world.specs.Worths.{pointer_of}
use Rattle.pv_eval.specs.Plainly.{Yields, found_worth}
use Rattle.pv_eval.proofs.PlainUpdates.{performs_compound}
use Rattle.pv_eval.proofs.plain_updates.compound_assign.Goals as goal

pub returns-then-assigned-clause-some : goal.returns-then-assigned-clause-some
returns-then-assigned-clause-some c =
    let u = c.args.unit.now in
    let w = c.args.world.now in
    let place = found_worth c.in_ok-place.place in
    performs_compound u w c.assigned.new.world c.args.n c.args.a c.args.d c.args.op c.args.at (pointer_of place) (found_worth c.in_ok-v.v) (found_worth c.in_ok-second.second) (found_worth c.in_ok-z.z) c.requires.form
    (subst (λ (v : Worth). Yields u w (expression_at u c.args.a) v) c.in_ok-v.ensures.place c.in_ok-place.ensures) c.in_ok-v.ensures.reads c.in_ok-second.ensures c.in_ok-z.ensures
    (c.assigned.ensures.stored c.if-assigned.true)
