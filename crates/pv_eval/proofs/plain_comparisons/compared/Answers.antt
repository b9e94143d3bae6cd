use Rattle.std.proofs.Common.{sym, ap, ◌∙◌, subst}
use Rattle.pv_world.specs.Worlds.{Worth}
use Rattle.pv_world.specs.Worths.{truth_int}
use Rattle.pv_eval.specs.Operations.{Equals}
use Rattle.pv_eval.specs.Plainly.{GivesAt, found_worth}
use Rattle.pv_eval.proofs.PlainComparisons.{compares}
use Rattle.pv_eval.proofs.plain_comparisons.compared.Goals as goal

pub returns : goal.returns
returns c =
    let v = found_worth c.args.v in
    let x = found_worth c.args.x in
    subst (λ (z : Worth). GivesAt c.args.world.now (λ b. Equals c.args.negated v x) z) (sym (c.truth.ensures ∙ ap truth_int c.sameness.ensures))
    (compares c.args.world.now c.args.negated v x c.in_ok-left.left c.in_ok-right.right c.in_ok-left.ensures c.in_ok-right.ensures)
