use Rattle.std.proofs.Common.{◌≡◌, ◌+◌, ap, ◌∙◌, arith, Some}
use Rattle.pv_typed.specs.NodeTrees.{expression_at}
use Rattle.pv_eval.proofs.PlainStores.{one_turns}
use Rattle.pv_eval.proofs.plain_whole.turns_of_one.Goals as goal

pub returns : goal.returns
returns c =
    let turns = c.in_ok-turns.turns in
    let same : turns + 1 ≡ c.from.result + 1 = omega (arith, c.from.ensures) in
    one_turns (expression_at c.args.unit.now c.args.a) turns c.in_ok-turns.ensures ∙ ap Some same
