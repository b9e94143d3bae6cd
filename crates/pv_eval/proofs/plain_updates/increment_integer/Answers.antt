use Rattle.std.proofs.Common.{sym, subst}
use Rattle.pv_typed.specs.NodeTrees.{expression_at}
use Rattle.pv_world.specs.Worlds.{Worth}
use Rattle.pv_world.specs.Worths.{pointer_of}
use Rattle.pv_eval.specs.Plainly.{Yields, Performs, found_worth}
use Rattle.pv_eval.proofs.PlainUpdates.{performs_increment}
use Rattle.pv_eval.proofs.plain_updates.increment_integer.Goals as goal

pub value-requires-clause-there : goal.value-requires-clause-there
value-requires-clause-there c = c.requires.code.place.there

pub loaded_integer-requires-clause-there : goal.loaded_integer-requires-clause-there
loaded_integer-requires-clause-there c = c.requires.code.place

pub stepped_integer-requires : goal.stepped_integer-requires
stepped_integer-requires c = c.requires.code.back_is

pub stored_integer-requires-clause-there : goal.stored_integer-requires-clause-there
stored_integer-requires-clause-there c = c.requires.code.place

pub returns-then-stored_integer-clause-some : goal.returns-then-stored_integer-clause-some
returns-then-stored_integer-clause-some c =
    let u = c.args.unit.now in
    let w = c.args.world.now in
    let later = c.stored_integer.new.world in
    let place = found_worth c.in_ok-place.place in
    subst (λ (v : Worth). Performs u w later (expression_at u c.args.n) v) (sym c.chosen.ensures)
    (performs_increment u w later c.args.n c.args.x.node c.args.o (pointer_of place) (found_worth c.in_ok-v.v) (found_worth c.in_ok-z.z) c.requires.code.form
    (subst (λ (v : Worth). Yields u w (expression_at u c.args.x.node) v) c.in_ok-v.ensures.place c.in_ok-place.ensures) c.in_ok-v.ensures.reads c.in_ok-z.ensures
    (c.stored_integer.ensures.stored c.if-stored_integer.true))
