use Rattle.std.proofs.Common.{sym, ap, ◌∙◌}
use Rattle.pv_tree.specs.declared.nodes.NodeId.{NodeId}
use Rattle.pv_types.specs.Known.{Known, tree}
use Rattle.pv_typed.specs.declared.nodes.Typed.TheVariants as typed
use Rattle.pv_eval.specs.TypeForms.{kind_of}
use Rattle.pv_eval.specs.Plainly.{form_by}
use Rattle.pv_eval.proofs.codes.compound_code.Goals as goal

pub returns : goal.returns
returns c = record {
  d = c.args.d;
  form = c.requires.form ∙ ap (λ (m : NodeId). form_by c.args.unit.now (typed.CompoundAssign c.args.op c.args.at m c.args.d)) (sym c.in_ok-place.ensures.node);
  place = c.in_ok-place.ensures.place;
  second = (c.requires.right, c.requires.second);
  right_is = c.in_ok-right.ensures;
  back_is = c.kind-back.ensures ∙ ap (λ (m : Known). kind_of (tree m c.type_of.result.0)) c.types.ensures ∙ ap kind_of c.type_of.ensures.tree;
}
