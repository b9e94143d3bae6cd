use Rattle.std.proofs.Common.{◌≡◌, ap, ◌∙◌, arith, Some}
use Rattle.pv_typed.specs.NodeTrees.{expression_at}
use Rattle.pv_typed.specs.Plain.{turns_of}
use Rattle.pv_eval.proofs.PlainStores.{capped_some}
use Rattle.pv_eval.proofs.plain_whole.plain_turns.Goals as goal

pub returns : goal.returns
returns c =
    let same : c.in_ok-turns.turns ≡ c.from.result = omega (arith, c.from.ensures) in
    capped_some (turns_of (expression_at c.args.unit.now c.args.n)) c.in_ok-turns.turns c.in_ok-turns.ensures ∙ ap Some same
