use Rattle.std.proofs.Common.{subst}
use Rattle.pv_typed.specs.NodeTrees.{expression_at}
use Rattle.pv_world.specs.Worlds.{Worth}
use Rattle.pv_world.specs.Worths.{pointer_of}
use Rattle.pv_eval.specs.Plainly.{Yields, found_worth}
use Rattle.pv_eval.proofs.PlainStores.{performs_assign}
use Rattle.pv_eval.proofs.plain_stores.assign_pointer.Goals as goal

pub value-requires-clause-there : goal.value-requires-clause-there
value-requires-clause-there c = c.requires.code.place.there

pub value-requires-2-clause-there : goal.value-requires-2-clause-there
value-requires-2-clause-there c = c.requires.code.right

pub stored_pointer-requires-clause-there : goal.stored_pointer-requires-clause-there
stored_pointer-requires-clause-there c = c.requires.code.place

pub returns-then-stored_pointer-clause-some : goal.returns-then-stored_pointer-clause-some
returns-then-stored_pointer-clause-some c =
    let u = c.args.unit.now in
    let w = c.args.world.now in
    let is = c.requires.code in
    let place = found_worth c.in_ok-place.place in
    let v = c.in_ok-v.v in
    performs_assign u w c.stored_pointer.new.world c.args.n c.args.x.node c.args.d (pointer_of place) v v is.form
    (subst (λ (q : Worth). Yields u w (expression_at u c.args.x.node) q) (c.stored_pointer.ensures.place c.if-stored_pointer.true) c.in_ok-place.ensures) c.in_ok-v.ensures (is.same (found_worth v))
    (c.stored_pointer.ensures.stored c.if-stored_pointer.true)
