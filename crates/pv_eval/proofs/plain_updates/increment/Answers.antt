use Rattle.std.proofs.Common.{sym, subst}
use Rattle.pv_typed.specs.NodeTrees.{expression_at}
use Rattle.pv_world.specs.Worlds.{Worth}
use Rattle.pv_world.specs.Worths.{pointer_of}
use Rattle.pv_eval.specs.Plainly.{Yields, Performs, found_worth}
use Rattle.pv_eval.proofs.PlainUpdates.{performs_increment}
use Rattle.pv_eval.proofs.plain_updates.increment.Goals as goal

pub returns-then-assigned-clause-some : goal.returns-then-assigned-clause-some
returns-then-assigned-clause-some c =
    let u = c.args.unit.now in
    let w = c.args.world.now in
    let later = c.assigned.new.world in
    let place = found_worth c.in_ok-place.place in
    subst (λ (v : Worth). Performs u w later (expression_at u c.args.n) v) (sym c.chosen.ensures)
    (performs_increment u w later c.args.n c.args.a c.args.o (pointer_of place) (found_worth c.in_ok-v.v) (found_worth c.in_ok-z.z) c.requires.form
    (subst (λ (v : Worth). Yields u w (expression_at u c.args.a) v) c.in_ok-v.ensures.place c.in_ok-place.ensures) c.in_ok-v.ensures.reads c.in_ok-z.ensures
    (c.assigned.ensures.stored c.if-assigned.true))
