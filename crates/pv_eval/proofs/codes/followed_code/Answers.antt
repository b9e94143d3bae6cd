use Rattle.std.proofs.Common.{ap, sym, ◌∙◌, refl}
use Rattle.pv_types.specs.Known.{Known, tree}
use Rattle.pv_typed.specs.declared.nodes.Typed.TheVariants.{Indirection}
use Rattle.pv_typed.specs.TypedTree.{type_of}
use Rattle.pv_typed.specs.NodeTrees.{expression_at}
use Rattle.pv_types.specs.Sorts.{is_void as is_none}
use Rattle.pv_eval.proofs.PlainNumbers.{followed_given}
use Rattle.pv_eval.proofs.codes.followed_code.Goals as goal

pub returns-else-is_none : goal.returns-else-is_none
returns-else-is_none c =
    let u = c.args.unit.now in
    record {
      node = Indirection c.args.a;
      form = c.requires.form;
      operand = refl;
      before = (c.requires.operand, c.requires.less);
      gives = λ w v. followed_given u w (type_of (expression_at u c.args.n)) (Indirection c.args.a) c.args.a v refl
          (ap is_none (sym c.type_of.ensures.tree) ∙ ap (λ (m : Known). is_none (tree m c.type_of.result.0)) (sym c.types.ensures) ∙ sym c.is_none.ensures ∙ c.if-is_none.false);
    }
