use Rattle.std.proofs.Common.{rules, ℤ, ◌≤◌, length, sym, ap, ◌∙◌}
use Rattle.pv_object.specs.declared.values.Value.TheVariants as value
use Rattle.pv_libc.specs.declared.values.Reply.TheVariants as reply
use Rattle.pv_libc.proofs.Differing.{difference_past}
use Rattle.pv_libc.proofs.blocks.difference.Goals as goal

pub returns-then-right-i : goal.returns-then-right-i
returns-then-right-i c =
    let over : length c.args.right.now ≤ c.loop-i.i = search rules in
    ap (λ (z : ℤ). reply.Value (value.Int z)) (sym (difference_past c.args.left.now c.args.right.now c.loop-i.i over) ∙ c.loop-i.invariant)
