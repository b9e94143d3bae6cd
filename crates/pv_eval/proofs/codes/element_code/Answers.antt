use Rattle.std.proofs.Common.{ap, sym, ◌∙◌}
use Rattle.pv_types.specs.Sorts.{is_pointer}
use Rattle.pv_eval.specs.Sizes.{element_in}
use Rattle.pv_eval.proofs.codes.element_code.Goals as goal

pub returns : goal.returns
returns c = record {
  a = c.args.a;
  form = c.requires.form;
  first = (c.requires.left, c.requires.first);
  given = c.given_by.ensures;
  second = (c.requires.right, c.requires.second);
  pointer = ap is_pointer (sym c.type_of.ensures.tree) ∙ c.in_ok-size.ensures.pointer;
  is = c.in_ok-size.ensures.size ∙ ap (element_in c.args.unit.now.known) c.type_of.ensures.tree;
  small = c.in_ok-size.ensures.small;
}
