use Rattle.std.proofs.Common.{FitsSigned, rules, sym, subst, ℤ, w64}
use Rattle.std.specs.Prelude.{IfSome}
use Rattle.std.proofs.lemmas.Int.{to_z-of_z}
use Rattle.pv_types.specs.Known.{tree}
use Rattle.pv_world.specs.Worths.{int}
use Rattle.pv_eval.specs.Conversions.{how_to}
use Rattle.pv_eval.specs.Operations.{Converts}
use Rattle.pv_eval.specs.Plainly.{AlwaysGives, found_worth}
use Rattle.pv_eval.proofs.plain_conversions.changed_number.Goals as goal

pub returns-in-Some : goal.returns-in-Some
returns-in-Some c = λ implied.
    let u = c.args.unit.now in
    let from = tree u.known c.args.from.0 in
    let to = tree u.known c.args.to.0 in
    let fx : FitsSigned w64 c.args.x = search rules in
    let fz : FitsSigned w64 c.in-Some.z = search rules in
    subst (λ (z : ℤ). AlwaysGives (λ b. Converts (how_to b implied from to) (int c.args.x)) (int z)) (sym (to_z-of_z w64 c.in-Some.z fz))
    (subst (λ (x : ℤ). AlwaysGives (λ b. Converts (how_to b implied from to) (int x)) (int c.in-Some.z)) (to_z-of_z w64 c.args.x fx) (c.in-Some.ensures implied))

pub returns-in-None : goal.returns-in-None
returns-in-None c = λ implied.
    let u = c.args.unit.now in
    let from = tree u.known c.args.from.0 in
    let to = tree u.known c.args.to.0 in
    let fx : FitsSigned w64 c.args.x = search rules in
    subst (λ (x : ℤ). IfSome c.nulled.result (λ z. AlwaysGives (λ b. Converts (how_to b implied from to) (int x)) (found_worth z))) (to_z-of_z w64 c.args.x fx) (c.nulled.ensures implied)
