use Rattle.std.proofs.Common.{◌≡◌, IfSome, FitsSigned, rules, sym, ap, ◌∙◌, subst, ℤ, to_z, of_z, w64}
use Rattle.std.specs.Int.{w128}
use Rattle.std.proofs.lemmas.Int.{to_z-of_z}
use Rattle.pv_num.specs.Kinds.{convert_of}
use Rattle.pv_types.specs.Known.{Known, tree}
use Rattle.pv_world.specs.Worths.{int}
use Rattle.pv_eval.specs.TypeForms.{shape_of}
use Rattle.pv_world.specs.Suiting.{is_small}
use Rattle.pv_eval.proofs.PlainNumbers.{rounded_some}
use Rattle.pv_eval.proofs.plain_numbers.rounded.Goals as goal

pub returns : goal.returns
returns c =
    let u = c.args.unit.now in
    let f : FitsSigned w128 c.from.result = search rules in
    let fz : FitsSigned w128 c.convert.result = search rules in
    let x : to_z w128 (of_z w128 c.from.result) ≡ c.args.x = to_z-of_z w128 c.from.result f ∙ c.from.ensures ∙ to_z-of_z w64 c.args.x c.ranges.x in
    rounded_some (tree u.known c.args.from.0) (tree u.known c.args.to.0) c.in-Int.field-0 c.in-Int-shape.kind c.args.x c.convert.result c.small.result
    (ap (λ (m : Known). shape_of (tree m c.args.from.0)) (sym c.types.ensures) ∙ sym c.in-Int.ensures)
    (ap (λ (m : Known). shape_of (tree m c.args.to.0)) (sym c.types-2.ensures) ∙ sym c.in-Int-shape.ensures)
    (c.convert.ensures.value ∙ ap (convert_of c.in-Int-shape.kind) x)
    (ap (λ (z : ℤ). is_small (int z)) (sym (to_z-of_z w64 c.args.x c.ranges.x)) ∙ sym c.is_small.ensures ∙ c.if-not-is_small.false)
    (subst (λ (z : ℤ). IfSome c.small.result (λ q. q ≡ z)) (to_z-of_z w128 c.convert.result fz) c.small.ensures)
