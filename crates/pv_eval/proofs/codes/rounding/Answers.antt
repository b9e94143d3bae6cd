use Rattle.std.proofs.Common.{ap, sym, ◌∙◌}
use Rattle.pv_types.specs.Known.{Known, tree}
use Rattle.pv_eval.specs.TypeForms.{shape_of}
use Rattle.pv_eval.proofs.codes.rounding.Goals as goal

pub returns : goal.returns
returns c = record {
  old = c.in-Int.field-0;
  from_is = ap (λ (m : Known). shape_of (tree m c.args.from.0)) (sym c.types.ensures) ∙ sym c.in-Int.ensures;
  to_is = ap (λ (m : Known). shape_of (tree m c.args.to.0)) (sym c.types-2.ensures) ∙ sym c.in-Int-shape.ensures;
}
