use Rattle.std.proofs.Common.{FitsSigned, rules, sym, ap, ◌∙◌, w64}
use Rattle.pv_types.specs.Known.{Known, tree}
use Rattle.pv_eval.specs.TypeForms.{shape_of}
use Rattle.pv_eval.proofs.PlainConversions.{zero_some, zero_bits}
use Rattle.pv_eval.proofs.plain_conversions.nulled.Goals as goal

pub returns-then-x-eq0 : goal.returns-then-x-eq0
returns-then-x-eq0 c = λ implied.
    let u = c.args.unit.now in
    let fits : FitsSigned w64 c.args.x = search rules in
    zero_some (tree u.known c.args.from.0) (tree u.known c.args.to.0) c.in-Int.field-0 c.args.x
    (ap (λ (m : Known). shape_of (tree m c.args.from.0)) (sym c.types.ensures) ∙ sym c.in-Int.ensures)
    (ap (λ (m : Known). shape_of (tree m c.args.to.0)) (sym c.types-2.ensures) ∙ sym c.in-Pointer.ensures)
    (zero_bits c.args.x fits c.if-x-eq0.true) implied
