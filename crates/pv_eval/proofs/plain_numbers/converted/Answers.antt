use Rattle.std.proofs.Common.{IfSome, FitsSigned, rules, subst, ℤ, true, w64}
use Rattle.std.proofs.lemmas.Int.{to_z-of_z}
use Rattle.pv_types.specs.Known.{tree}
use Rattle.pv_typed.specs.NodeTrees.{expression_at}
use Rattle.pv_world.specs.Worths.{int}
use Rattle.pv_eval.specs.Conversions.{how_to}
use Rattle.pv_eval.specs.Operations.{Converts}
use Rattle.pv_eval.specs.Plainly.{AlwaysGives}
use Rattle.pv_eval.proofs.PlainNumbers.{converted_some}
use Rattle.pv_eval.proofs.plain_numbers.converted.Goals as goal

pub returns-in-Convert : goal.returns-in-Convert
returns-in-Convert c =
    let u = c.args.unit.now in
    let fx : FitsSigned w64 c.in_ok-x.x = search rules in
    let from = tree u.known c.type_of.result.0 in
    let to = tree u.known c.type_of-in-Convert.result.0 in
    converted_some (expression_at u c.args.a) (expression_at u c.in-Convert.inner) from to _ c.in_ok-x.x c.rounded.result (c.in-Convert.ensures.form) c.type_of.ensures.tree c.type_of-in-Convert.ensures.tree c.in_ok-x.ensures
    (subst (λ (z : ℤ). IfSome c.rounded.result (λ q. AlwaysGives (λ b. Converts (how_to b true from to) (int z)) (int q))) (to_z-of_z w64 c.in_ok-x.x fx) (c.rounded.ensures true))
