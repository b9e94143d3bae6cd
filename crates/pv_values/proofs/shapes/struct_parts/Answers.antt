use Rattle.std.proofs.Common.{◌≡◌, ◌+◌, ◌∙◌, ◌<◌, ap, refl, length, get_or, arith}
use Rattle.std.specs.Int.{next_multiple_of}
use Rattle.pv_types.specs.Known.{tree, env}
use Rattle.pv_types.specs.Formed.{members_in, IsBuilt}
use Rattle.pv_types.specs.Layouts.{layout_in}
use Rattle.pv_layout.proofs.Ahead.{nobody, ahead_start, ahead_next, next_at}
use Rattle.pv_types.specs.Places.{struct_places}
use Rattle.pv_values.specs.ShapeParts.{first_parts, with_part}
use Rattle.pv_values.proofs.Shaped.{struct_next}
use Rattle.pv_values.proofs.shapes.struct_parts.Goals as goal

pub loop-m-init : goal.loop-m-init
loop-m-init c =
    let m = c.args.u.now.known in
    let items : c.members-m-items.result.now ≡ members_in m.done c.args.tag = c.members-m-items.ensures.value ∙ ap (λ k. members_in k.done c.args.tag) c.types-types.ensures in
    let built : IsBuilt c.args.u.now.known = rw (← c.types-types.ensures) c.members-m-items.ensures.built in (
      rw items (ahead_start m c.args.tag built c.requires.complete c.requires.structure c.requires.small),
      rw c.new-parts.ensures.items (ap (λ ms. first_parts (struct_places m 0 ms)) items),
    )

pub align-requires-clause-small : goal.align-requires-clause-small
align-requires-clause-small c =
    let lt : c.loop-m.m-index < length c.members-m-items.result.now = omega arith in
    let next = (next_at c.args.u.now.known c.args.tag c.loop-m.end c.loop-m.m-index c.members-m-items.result.now nobody lt c.loop-m.invariant.0).small in
    rw c.types-types.ensures (omega (arith, next))

pub next_multiple_of-start-requires-clause-nonzero : goal.next_multiple_of-start-requires-clause-nonzero
next_multiple_of-start-requires-clause-nonzero c =
    let lt : c.loop-m.m-index < length c.members-m-items.result.now = omega arith in
    rw (c.align.ensures, c.types-types.ensures) (next_at c.args.u.now.known c.args.tag c.loop-m.end c.loop-m.m-index c.members-m-items.result.now nobody lt c.loop-m.invariant.0).positive

pub next_multiple_of-start-requires-clause-fits : goal.next_multiple_of-start-requires-clause-fits
next_multiple_of-start-requires-clause-fits c =
    let lt : c.loop-m.m-index < length c.members-m-items.result.now = omega arith in
    let next = (next_at c.args.u.now.known c.args.tag c.loop-m.end c.loop-m.m-index c.members-m-items.result.now nobody lt c.loop-m.invariant.0).small in
    rw (c.align.ensures, c.types-types.ensures) (omega (arith, next))

pub size-bytes-requires-clause-small : goal.size-bytes-requires-clause-small
size-bytes-requires-clause-small c =
    let lt : c.loop-m.m-index < length c.members-m-items.result.now = omega arith in
    let next = (next_at c.args.u.now.known c.args.tag c.loop-m.end c.loop-m.m-index c.members-m-items.result.now nobody lt c.loop-m.invariant.0).small in
    rw c.types-types.ensures (omega (arith, next))

pub overflow_add-end : goal.overflow_add-end
overflow_add-end c =
    let lt : c.loop-m.m-index < length c.members-m-items.result.now = omega arith in
    let next = (next_at c.args.u.now.known c.args.tag c.loop-m.end c.loop-m.m-index c.members-m-items.result.now nobody lt c.loop-m.invariant.0).small in
    rw (c.next_multiple_of-start.ensures.value, c.align.ensures, c.size-bytes.ensures, c.types-types.ensures) (omega (arith, next))

pub loop-m-preserved : goal.loop-m-preserved
loop-m-preserved c =
    let m = c.args.u.now.known in
    let items = c.members-m-items.result.now in
    let i = c.loop-m.m-index in
    let lt : i < length items = omega arith in
    let t = tree m (get_or items i nobody).t.0 in
    let bytes : c.size-bytes.result ≡ (layout_in (env m) t).size = c.size-bytes.ensures ∙ ap (λ k. (layout_in (env k) (tree k (get_or items i nobody).t.0)).size) c.types-types.ensures in
    let start : c.next_multiple_of-start.result ≡ next_multiple_of c.loop-m.end (layout_in (env m) t).align =
    c.next_multiple_of-start.ensures.value ∙ ap (next_multiple_of c.loop-m.end) (c.align.ensures ∙ ap (λ k. (layout_in (env k) (tree k (get_or items i nobody).t.0)).align) c.types-types.ensures) in
    let end : c.next_multiple_of-start.result + c.size-bytes.result ≡ next_multiple_of c.loop-m.end (layout_in (env m) t).align + (layout_in (env m) t).size = rw (start, bytes) refl in (
      ahead_next m c.args.tag c.loop-m.end _ i items nobody lt c.loop-m.invariant.0 end,
      struct_next m c.loop-m.end _ c.next_multiple_of-start.result c.size-bytes.result i items c.loop-m.parts.items _ _ lt start (ap (λ k. c.next_multiple_of-start.result + k) bytes)
          (c.in_ok-add_part.ensures ∙ ap (with_part c.loop-m.parts.items) c.member_at.ensures) c.loop-m.invariant.1,
    )
