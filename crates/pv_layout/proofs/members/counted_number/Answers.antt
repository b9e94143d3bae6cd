use Rattle.std.proofs.Common.{◌<◌, length, refl, arith}
use Rattle.pv_layout.proofs.Ahead.{nobody, ahead_start, next_at}
use Rattle.pv_layout.proofs.members.counted_number.Goals as goal

pub loop-m-init : goal.loop-m-init
loop-m-init c = rw c.members-m-items.ensures.value (ahead_start c.args.types.now c.args.tag c.members-m-items.ensures.built c.requires.complete c.requires.structure c.requires.small, refl)

pub next_place-place-requires-clause-positive : goal.next_place-place-requires-clause-positive
next_place-place-requires-clause-positive c =
    let lt : c.loop-m.m-index < length c.members-m-items.result.now = omega arith in
    (next_at c.args.types.now c.args.tag c.loop-m.end c.loop-m.m-index c.members-m-items.result.now nobody lt c.loop-m.invariant.0).positive

pub next_place-place-requires-clause-small : goal.next_place-place-requires-clause-small
next_place-place-requires-clause-small c =
    let lt : c.loop-m.m-index < length c.members-m-items.result.now = omega arith in
    (next_at c.args.types.now c.args.tag c.loop-m.end c.loop-m.m-index c.members-m-items.result.now nobody lt c.loop-m.invariant.0).small

pub next_place-place-requires-clause-known : goal.next_place-place-requires-clause-known
next_place-place-requires-clause-known c =
    let lt : c.loop-m.m-index < length c.members-m-items.result.now = omega arith in
    (next_at c.args.types.now c.args.tag c.loop-m.end c.loop-m.m-index c.members-m-items.result.now nobody lt c.loop-m.invariant.0).known

pub next_place-place-requires-clause-complete : goal.next_place-place-requires-clause-complete
next_place-place-requires-clause-complete c =
    let lt : c.loop-m.m-index < length c.members-m-items.result.now = omega arith in
    (next_at c.args.types.now c.args.tag c.loop-m.end c.loop-m.m-index c.members-m-items.result.now nobody lt c.loop-m.invariant.0).complete
