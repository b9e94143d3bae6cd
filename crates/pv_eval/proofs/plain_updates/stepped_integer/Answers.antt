use Rattle.std.proofs.Common.{◌≡◌, subst}
use Rattle.std.specs.Prelude.{pos, if◌then◌else◌}
use Rattle.pv_num.specs.declared.kinds.IntKind.{IntKind}
use Rattle.pv_num.specs.declared.operators.BinOp.{BinOp}
use Rattle.pv_num.specs.declared.operators.BinOp.TheVariants as op
use Rattle.pv_typed.specs.TypedTree.{type_of}
use Rattle.pv_typed.specs.NodeTrees.{expression_at}
use Rattle.pv_world.specs.declared.got.How.TheVariants.{Rounds}
use Rattle.pv_world.specs.Worths.{int}
use Rattle.pv_eval.specs.Operations.{Converts, Calculates}
use Rattle.pv_eval.specs.Steps.{is_down}
use Rattle.pv_eval.specs.Plainly.{AlwaysGives, StepsTo, found_worth}
use Rattle.pv_eval.proofs.PlainSteps.{some_map}
use Rattle.pv_eval.proofs.PlainUpdates.{steps_number}
use Rattle.pv_eval.proofs.plain_updates.stepped_integer.Goals as goal

pub returns : goal.returns
returns c =
    let u = c.args.unit.now in
    let t = type_of (expression_at u c.args.n) in
    let v = found_worth c.args.v in
    let k = c.args.kind in
    let sum = found_worth c.in_ok-sum.sum in
    let h = subst (λ (o : BinOp). AlwaysGives (λ b. Calculates o c.promoted.result v (int (pos 1))) sum) c.operator.ensures c.in_ok-sum.ensures in
    some_map (λ q. AlwaysGives (λ b. Converts (Rounds k) sum) (found_worth q)) (λ q. StepsTo u c.args.world.now t c.args.o v (found_worth q)) c.kept.result
    (λ q g. steps_number u c.args.world.now t c.args.o v (found_worth q) k sum c.requires (subst (λ (j : IntKind). AlwaysGives (λ b. Calculates (if is_down c.args.o then op.Sub else op.Add) j v (int (pos 1))) sum) c.promoted.ensures h) g)
    c.kept.ensures
