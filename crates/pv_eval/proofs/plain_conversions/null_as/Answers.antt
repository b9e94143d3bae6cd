use Rattle.std.proofs.Common.{sym, ap, ◌∙◌}
use Rattle.pv_types.specs.Known.{Known, tree}
use Rattle.pv_eval.specs.TypeForms.{shape_of}
use Rattle.pv_eval.proofs.PlainConversions.{null_some}
use Rattle.pv_eval.proofs.plain_conversions.null_as.Goals as goal

pub returns : goal.returns
returns c = λ implied.
    let u = c.args.unit.now in
    null_some (tree u.known c.args.from.0) (tree u.known c.args.to.0)
    (ap (λ (m : Known). shape_of (tree m c.args.from.0)) (sym c.types.ensures) ∙ sym c.in-Pointer.ensures)
    (ap (λ (m : Known). shape_of (tree m c.args.to.0)) (sym c.types-2.ensures) ∙ sym c.in-Pointer-shape.ensures)
    implied
