use Rattle.std.proofs.Common.{◌≡◌, ap, ◌∙◌, subst}
use Rattle.std.specs.Prelude.{IfSome}
use Rattle.pv_num.specs.declared.kinds.IntKind.{IntKind}
use Rattle.pv_types.specs.Known.{Known, tree}
use Rattle.pv_typed.specs.TypedTree.{type_of}
use Rattle.pv_typed.specs.NodeTrees.{expression_at}
use Rattle.pv_eval.specs.TypeForms.{kind_of}
use Rattle.pv_eval.specs.Plainly.{CombinesTo, found_worth}
use Rattle.pv_eval.proofs.plain_updates.combined.Goals as goal

pub returns : goal.returns
returns c =
    let u = c.args.unit.now in
    let x = expression_at u c.args.d in
    let v = found_worth c.args.v in
    let second = found_worth c.args.second in
    let back : c.kind.result ≡ kind_of (type_of (expression_at u c.args.n)) = c.kind.ensures ∙ ap (λ (m : Known). kind_of (tree m c.type_of.result.0)) c.types.ensures ∙ ap kind_of c.type_of.ensures.tree in
    subst (λ (j : IntKind). IfSome c.combined_as.result (λ q. CombinesTo x c.args.op c.args.at j v second (found_worth q))) back (c.combined_as.ensures x second c.in_ok-right.ensures)
