use Rattle.std.proofs.Common.{◌∙◌, ◌<◌, ap, length, arith}
use Rattle.pv_types.specs.Formed.{members_in, IsBuilt}
use Rattle.pv_describe.proofs.Members.{left_start, one_at, union_starts}
use Rattle.pv_describe.proofs.describing.add_union_members.Goals as goal

pub loop-m-init : goal.loop-m-init
loop-m-init c =
    let items = c.members-m-items.ensures.value ∙ ap (λ k. members_in k.done c.args.tag) c.types-types.ensures in
    let built : IsBuilt c.args.u.now.known = rw (← c.types-types.ensures) c.members-m-items.ensures.built in (
      left_start c.args.u.now.known c.args.tag c.members-m-items.result.now items built c.requires.complete c.requires.union c.requires.small,
      union_starts c.args.u.now c.args.tag c.args.text.now.items c.members-m-items.result.now items,
    )

pub size-requires-clause-small : goal.size-requires-clause-small
size-requires-clause-small c =
    let lt : c.loop-m.m-index < length c.members-m-items.result.now = omega arith in
    rw c.types-types.ensures (one_at c.args.u.now.known c.loop-m.m-index c.members-m-items.result.now lt c.loop-m.invariant.0).small
