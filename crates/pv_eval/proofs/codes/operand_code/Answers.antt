use Rattle.std.proofs.Common.{refl, subst}
use Rattle.pv_types.specs.Ty.{Ty}
use Rattle.pv_types.specs.Known.{tree}
use Rattle.pv_typed.specs.declared.nodes.Typed.TheVariants.{Convert}
use Rattle.pv_typed.specs.TypedTree.{type_of}
use Rattle.pv_typed.specs.NodeTrees.{expression_at}
use Rattle.pv_eval.specs.Codes.{IsRounded}
use Rattle.pv_eval.proofs.PlainCodes.{one_before, unconverted}
use Rattle.pv_eval.proofs.codes.operand_code.Goals as goal

pub returns-in_ok-kind-in-Convert : goal.returns-in_ok-kind-in-Convert
returns-in_ok-kind-in-Convert c =
    let u = c.args.unit.now in
    let inner = c.in-Convert.inner in
    let kind = c.in_ok-kind-in-Convert.kind in (
      c.in-Convert.ensures.form,
      one_before u c.args.a inner (Convert inner) c.requires c.in-Convert.ensures.operands refl,
      subst (λ (t : Ty). IsRounded t (type_of (expression_at u c.args.a)) kind) c.type_of.ensures.tree
          (subst (λ (t : Ty). IsRounded (tree u.known c.type_of.result.0) t kind) c.type_of-in-Convert.ensures.tree c.in_ok-kind-in-Convert.ensures),
    )

pub returns-in_default : goal.returns-in_default
returns-in_default c = (refl, unconverted c.args.unit.now c.args.a c.node.result c.node.ensures.form c.in_default.not-Convert)
