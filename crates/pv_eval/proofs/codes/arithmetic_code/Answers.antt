use Rattle.std.proofs.Common.{ap, ◌∙◌}
use Rattle.pv_types.specs.Known.{Known, tree}
use Rattle.pv_eval.specs.TypeForms.{kind_of}
use Rattle.pv_eval.proofs.codes.arithmetic_code.Goals as goal

pub returns : goal.returns
returns c = record {
  a = c.args.a;
  d = c.args.d;
  form = c.requires.form;
  first = (c.requires.left, c.requires.first);
  second = (c.requires.right, c.requires.second);
  kind = c.kind-kind.ensures ∙ ap (λ (m : Known). kind_of (tree m c.type_of.result.0)) c.types.ensures ∙ ap kind_of c.type_of.ensures.tree;
  left_is = c.in_ok-left.ensures;
  right_is = c.in_ok-right.ensures;
}
