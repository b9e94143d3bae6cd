use Rattle.std.proofs.Common.{◌≡◌, ◌+◌, ap, ◌∙◌, arith, Some}
use Rattle.pv_typed.specs.NodeTrees.{expression_at}
use Rattle.pv_eval.proofs.PlainStores.{both_turns}
use Rattle.pv_eval.proofs.plain_whole.turns_of_both.Goals as goal

pub returns : goal.returns
returns c =
    let u = c.args.unit.now in
    let left = c.in_ok-left.left in
    let right = c.in_ok-right.right in
    let same : left + right + 1 ≡ c.from.result + c.from-2.result + 1 = omega (arith, c.from.ensures, c.from-2.ensures) in
    both_turns (expression_at u c.args.a) (expression_at u c.args.d) left right c.in_ok-left.ensures c.in_ok-right.ensures ∙ ap Some same
