use Rattle.std.proofs.Common.{FitsSigned, rules, sym, ap, ◌∙◌, subst, ℤ, w64}
use Rattle.std.specs.Ordering.{int_eq}
use Rattle.std.specs.Prelude.{pos, not}
use Rattle.std.proofs.lemmas.Int.{to_z-of_z}
use Rattle.pv_world.specs.Worths.{truth_int}
use Rattle.pv_eval.specs.declared.plain.Found.{Found}
use Rattle.pv_eval.specs.Operations.{Tests}
use Rattle.pv_eval.specs.Plainly.{GivesAt, found_worth}
use Rattle.pv_eval.proofs.PlainComparisons.{number_tested}
use Rattle.pv_eval.proofs.plain_comparisons.is_true.Goals as goal

pub returns-in-Number : goal.returns-in-Number
returns-in-Number c =
    let fits : FitsSigned w64 c.in-Number.x = search rules in
    let t = not c.is_zero.result in
    subst (λ (q : Found). GivesAt c.args.world.now (λ b. Tests (found_worth q)) (truth_int t)) (sym c.in-Number.is)
    (number_tested c.args.world.now c.in-Number.x t (ap not c.is_zero.ensures ∙ ap (λ (x : ℤ). not (int_eq x (pos 0))) (to_z-of_z w64 c.in-Number.x fits)))
