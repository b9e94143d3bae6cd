use Rattle.std.proofs.Common.{false}
use Rattle.pv_typed.specs.NodeTrees.{expression_at}
use Rattle.pv_eval.specs.Plainly.{Yields, YieldsNoting, found_worth}
use Rattle.pv_eval.proofs.PlainSteps.{some_map}
use Rattle.pv_eval.proofs.plain_coded.value.Goals as goal

pub returns : goal.returns
returns c =
    let u = c.args.unit.now in
    let w = c.args.world.now in
    let x = expression_at u c.args.n in
    some_map (λ v. YieldsNoting u w x (found_worth v) false c.new-notes.result.items c.value_by.new.notes.items) (λ v. Yields u w x (found_worth v)) c.value_by.result (λ v y. y.yields) c.value_by.ensures
