use Rattle.std.proofs.Common.{◌≢◌, arith, rules}
use Rattle.pv_types.proofs.Parted.{const_through_array}
use Rattle.pv_types.proofs.types.Types.has_const.Goals as goal

pub loop-tag-preserved : goal.loop-tag-preserved
loop-tag-preserved c =
    let h = c.loop-tag.invariant in
    let known = h.0 in
    let below = c.in-Array-default-Some.ensures.earlier in
    let is = rw c.in-Array-default-Some.field-1-is at c.in-Array-default-Some.ensures.tree in
    let some : c.in-Array-default-Some.n ≢ 0 = search rules in
    (omega (arith, below, known), const_through_array c.args.self.now c.loop-tag.at.0 c.in-Array-default-Some.element.0 c.in-Array-default-Some.n _ is some h.1)
