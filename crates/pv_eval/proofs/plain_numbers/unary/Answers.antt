use Rattle.std.proofs.Common.{FitsSigned, rules, sym, ap, ◌∙◌, subst, ℤ, w64, to_z, of_z}
use Rattle.std.proofs.lemmas.Int.{to_z-of_z}
use Rattle.pv_types.specs.Known.{Known, tree}
use Rattle.pv_typed.specs.declared.nodes.Typed.TheVariants.{Unary}
use Rattle.pv_typed.specs.TypedTree.{type_of}
use Rattle.pv_typed.specs.NodeTrees.{expression_at}
use Rattle.pv_world.specs.Worths.{int}
use Rattle.pv_eval.specs.TypeForms.{kind_of}
use Rattle.pv_eval.specs.Operations.{CalculatesOne}
use Rattle.pv_eval.specs.Plainly.{AlwaysGives, GivesWith, found_worth}
use Rattle.pv_eval.proofs.PlainNumbers.{unary_given}
use Rattle.pv_eval.proofs.plain_numbers.unary.Goals as goal

pub returns-in-Some : goal.returns-in-Some
returns-in-Some c = λ w.
    let u = c.args.unit.now in
    let t = type_of (expression_at u c.args.n) in
    let fx : FitsSigned w64 c.in_ok-x.x = search rules in
    let fz : FitsSigned w64 c.in-Some.z = search rules in
    let h : AlwaysGives (λ b. CalculatesOne c.args.op c.kind.result (int (to_z w64 (of_z w64 c.in_ok-x.x)))) (int c.in-Some.z) = c.in-Some.ensures in
    subst (λ (z : ℤ). GivesWith u w t (Unary c.args.op c.args.a) (found_worth c.args.first) (int z)) (sym (to_z-of_z w64 c.in-Some.z fz))
    (unary_given u w t c.args.op c.args.a c.kind.result (found_worth c.args.first) (int c.in_ok-x.x) (int c.in-Some.z)
    (c.kind.ensures ∙ ap (λ (m : Known). kind_of (tree m c.type_of.result.0)) c.types.ensures ∙ ap kind_of c.type_of.ensures.tree) c.in_ok-x.ensures
    (subst (λ (n : ℤ). AlwaysGives (λ b. CalculatesOne c.args.op c.kind.result (int n)) (int c.in-Some.z)) (to_z-of_z w64 c.in_ok-x.x fx) h))
