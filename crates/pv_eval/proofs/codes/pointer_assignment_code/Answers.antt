use Rattle.std.proofs.Common.{sym, ap, ◌∙◌}
use Rattle.pv_tree.specs.declared.nodes.NodeId.{NodeId}
use Rattle.pv_typed.specs.declared.nodes.Typed.TheVariants as typed
use Rattle.pv_eval.specs.Plainly.{form_by}
use Rattle.pv_eval.proofs.PlainCodes.{unconverted}
use Rattle.pv_eval.proofs.codes.pointer_assignment_code.Goals as goal

pub returns-in_default : goal.returns-in_default
returns-in_default c = record {
  form = c.requires.form ∙ ap (λ (m : NodeId). form_by c.args.unit.now (typed.Assign m c.args.d)) (sym c.in_ok-place.ensures.node);
  place = c.in_ok-place.ensures.place;
  right = c.requires.right;
  same = unconverted c.args.unit.now c.args.d c.node.result c.node.ensures.form c.in_default.not-Convert;
}
