use Rattle.std.proofs.Common.{FitsSigned, rules, sym, ap, ◌∙◌, subst, ℤ, w64, to_z, of_z}
use Rattle.std.proofs.lemmas.Int.{to_z-of_z}
use Rattle.pv_types.specs.Known.{Known, tree}
use Rattle.pv_typed.specs.declared.nodes.Typed.TheVariants.{Arithmetic}
use Rattle.pv_world.specs.Worths.{int}
use Rattle.pv_eval.specs.TypeForms.{kind_of}
use Rattle.pv_eval.specs.Operations.{Calculates}
use Rattle.pv_eval.specs.Plainly.{AlwaysGives, GivesWithBoth, found_worth}
use Rattle.pv_eval.proofs.PlainNumbers.{gives_calculated, calculates_same}
use Rattle.pv_eval.proofs.plain_numbers.arithmetic.Goals as goal

pub returns-in-Some : goal.returns-in-Some
returns-in-Some c = λ w t.
    let u = c.args.unit.now in
    let fx : FitsSigned w64 c.in_ok-x.x = search rules in
    let fy : FitsSigned w64 c.in_ok-y.y = search rules in
    let fz : FitsSigned w64 c.in-Some.z = search rules in
    let h : AlwaysGives (λ b. Calculates c.args.op c.kind.result (int (to_z w64 (of_z w64 c.in_ok-x.x))) (int (to_z w64 (of_z w64 c.in_ok-y.y)))) (int c.in-Some.z) = c.in-Some.ensures in
    subst (λ (z : ℤ). GivesWithBoth u w t (Arithmetic c.args.op c.args.a c.args.d) (found_worth c.args.first) (found_worth c.args.second) (int z)) (sym (to_z-of_z w64 c.in-Some.z fz))
    (gives_calculated u w t c.args.op c.args.a c.args.d c.kind.result (found_worth c.args.first) (found_worth c.args.second) (int c.in_ok-x.x) (int c.in_ok-y.y) (int c.in-Some.z) c.in_ok-x.ensures c.in_ok-y.ensures
    (c.kind.ensures ∙ ap (λ (m : Known). kind_of (tree m c.type_of.result.0)) c.types.ensures ∙ ap kind_of c.type_of.ensures.tree)
    (calculates_same c.args.op c.kind.result _ _ _ _ _ (to_z-of_z w64 c.in_ok-x.x fx) (to_z-of_z w64 c.in_ok-y.y fy) h))
