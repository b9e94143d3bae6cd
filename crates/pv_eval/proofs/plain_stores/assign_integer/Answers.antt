use Rattle.std.proofs.Common.{subst}
use Rattle.pv_typed.specs.NodeTrees.{expression_at}
use Rattle.pv_world.specs.Worlds.{Worth}
use Rattle.pv_world.specs.Worths.{pointer_of}
use Rattle.pv_eval.specs.Plainly.{Yields, found_worth}
use Rattle.pv_eval.proofs.PlainCodes.{operand_before, operand_yields}
use Rattle.pv_eval.proofs.PlainStores.{performs_assign}
use Rattle.pv_eval.proofs.plain_stores.assign_integer.Goals as goal

pub value-requires-clause-there : goal.value-requires-clause-there
value-requires-clause-there c = c.requires.code.place.there

pub value-requires-2-clause-there : goal.value-requires-2-clause-there
value-requires-2-clause-there c =
    let is = c.requires.code in
    (operand_before c.args.unit.now c.args.n is.d c.args.right is.second is.right_is).0

pub stored_integer-requires-clause-there : goal.stored_integer-requires-clause-there
stored_integer-requires-clause-there c = c.requires.code.place

pub returns-then-stored_integer-clause-some : goal.returns-then-stored_integer-clause-some
returns-then-stored_integer-clause-some c =
    let u = c.args.unit.now in
    let w = c.args.world.now in
    let is = c.requires.code in
    let place = found_worth c.in_ok-place.place in
    let second = operand_yields u w is.d c.args.right.node c.args.right.to (found_worth c.in_ok-second.second) (found_worth c.in_ok-v.v) is.right_is c.in_ok-second.ensures c.in_ok-v.ensures in
    performs_assign u w c.stored_integer.new.world c.args.n c.args.x.node is.d (pointer_of place) c.in_ok-second.second c.in_ok-v.v is.form
    (subst (λ (q : Worth). Yields u w (expression_at u c.args.x.node) q) (c.stored_integer.ensures.place c.if-stored_integer.true) c.in_ok-place.ensures) second.0 second.1
    (c.stored_integer.ensures.stored c.if-stored_integer.true)
