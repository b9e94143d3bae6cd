use Rattle.std.proofs.Common.{sym, ap, ◌∙◌}
use Rattle.pv_tree.specs.declared.nodes.NodeId.{NodeId}
use Rattle.pv_types.specs.Known.{Known, tree}
use Rattle.pv_typed.specs.declared.nodes.Typed.TheVariants as typed
use Rattle.pv_eval.specs.TypeForms.{shape_of}
use Rattle.pv_eval.specs.Plainly.{form_by}
use Rattle.pv_eval.proofs.codes.increment_code.Goals as goal

pub returns : goal.returns
returns c = record {
  form = c.requires.form ∙ ap (λ (m : NodeId). form_by c.args.unit.now (typed.Increment c.args.o m)) (sym c.in_ok-place.ensures.node);
  place = c.in_ok-place.ensures.place;
  back_is = ap shape_of (sym c.type_of.ensures.tree) ∙ ap (λ (m : Known). shape_of (tree m c.type_of.result.0)) (sym c.types.ensures) ∙ sym c.in-Int.ensures;
}
