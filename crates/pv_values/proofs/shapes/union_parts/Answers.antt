use Rattle.std.proofs.Common.{◌∙◌, ap, arith}
use Rattle.pv_values.specs.ShapeParts.{with_part}
use Rattle.pv_values.proofs.Shaped.{union_next}
use Rattle.pv_values.proofs.shapes.union_parts.Goals as goal

pub loop-m-preserved : goal.loop-m-preserved
loop-m-preserved c =
    union_next c.args.u.now.known c.loop-m.m-index c.members-m-items.result.now c.loop-m.parts.items _ _ (omega arith)
    (c.in_ok-add_part.ensures ∙ ap (with_part c.loop-m.parts.items) c.member_at.ensures) c.loop-m.invariant
