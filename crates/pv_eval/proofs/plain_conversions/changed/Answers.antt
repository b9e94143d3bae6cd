use Rattle.std.proofs.Common.{FitsSigned, rules, sym, subst, ℤ, w64}
use Rattle.std.specs.Prelude.{IfSome}
use Rattle.std.proofs.lemmas.Int.{to_z-of_z}
use Rattle.pv_types.specs.Known.{tree}
use Rattle.pv_world.specs.Worths.{int}
use Rattle.pv_eval.specs.Conversions.{how_to}
use Rattle.pv_eval.specs.Operations.{Converts}
use Rattle.pv_eval.specs.declared.plain.Found.{Found}
use Rattle.pv_eval.specs.Plainly.{AlwaysGives, found_worth}
use Rattle.pv_eval.proofs.plain_conversions.changed.Goals as goal

pub returns-in-Number : goal.returns-in-Number
returns-in-Number c = λ implied.
    let u = c.args.unit.now in
    let from = tree u.known c.args.from.0 in
    let to = tree u.known c.args.to.0 in
    let fits : FitsSigned w64 c.in-Number.x = search rules in
    subst (λ (q : Found). IfSome c.changed_number.result (λ z. AlwaysGives (λ b. Converts (how_to b implied from to) (found_worth q)) (found_worth z))) (sym c.in-Number.is)
    (subst (λ (x : ℤ). IfSome c.changed_number.result (λ z. AlwaysGives (λ b. Converts (how_to b implied from to) (int x)) (found_worth z))) (to_z-of_z w64 c.in-Number.x fits) (c.changed_number.ensures implied))

pub returns-in-Null : goal.returns-in-Null
returns-in-Null c = λ implied.
    let u = c.args.unit.now in
    subst (λ (q : Found). IfSome c.null_as.result (λ z. AlwaysGives (λ b. Converts (how_to b implied (tree u.known c.args.from.0) (tree u.known c.args.to.0)) (found_worth q)) (found_worth z))) (sym c.in-Null.is) (c.null_as.ensures implied)
