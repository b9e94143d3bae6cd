use Rattle.std.proofs.Common.{subst}
use Rattle.std.specs.Prelude.{false}
use Rattle.pv_types.specs.Ty.{Ty}
use Rattle.pv_types.specs.Known.{tree}
use Rattle.pv_typed.specs.declared.nodes.Typed.TheVariants.{Cast}
use Rattle.pv_typed.specs.TypedTree.{type_of}
use Rattle.pv_typed.specs.NodeTrees.{expression_at}
use Rattle.pv_eval.specs.Conversions.{how_to}
use Rattle.pv_eval.specs.Operations.{Converts}
use Rattle.pv_eval.specs.Plainly.{AlwaysGives, GivesWith, found_worth}
use Rattle.pv_eval.proofs.PlainSteps.{some_map}
use Rattle.pv_eval.proofs.PlainNumbers.{cast_given}
use Rattle.pv_eval.proofs.plain_conversions.cast.Goals as goal

pub returns : goal.returns
returns c = λ w.
    let u = c.args.unit.now in
    let t = type_of (expression_at u c.args.n) in
    let from = tree u.known c.type_of.result.0 in
    let to = tree u.known c.type_of-2.result.0 in
    let v = found_worth c.args.first in
    some_map (λ z. AlwaysGives (λ b. Converts (how_to b false from to) v) (found_worth z)) (λ z. GivesWith u w t (Cast c.args.a) v (found_worth z)) c.changed.result
    (λ z h. cast_given u w t c.args.a from v (found_worth z) c.type_of.ensures.tree (subst (λ (s : Ty). AlwaysGives (λ b. Converts (how_to b false from s) v) (found_worth z)) c.type_of-2.ensures.tree h))
    (c.changed.ensures false)
