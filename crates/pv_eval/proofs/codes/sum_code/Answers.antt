use Rattle.std.proofs.Common.{ap, sym, ◌∙◌}
use Rattle.pv_types.specs.Known.{Known, tree}
use Rattle.pv_types.specs.Sorts.{is_pointer}
use Rattle.pv_eval.specs.Sizes.{element_in}
use Rattle.pv_eval.proofs.codes.sum_code.Goals as goal

pub returns : goal.returns
returns c = record {
  form = c.requires.form;
  first = (c.requires.left, c.requires.first);
  second = (c.requires.right, c.requires.second);
  pointer = ap is_pointer (sym c.type_of.ensures.tree) ∙ ap (λ (m : Known). is_pointer (tree m c.type_of.result.0)) (sym c.types.ensures) ∙ c.in_ok-pointee.ensures.pointer;
  is = c.in_ok-size.ensures.size ∙ ap (element_in c.args.unit.now.known) c.type_of-2.ensures.tree;
  small = c.in_ok-size.ensures.small;
}
