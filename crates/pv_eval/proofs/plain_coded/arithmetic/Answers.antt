use Rattle.pv_eval.specs.Operations.{Calculates}
use Rattle.pv_eval.specs.Plainly.{AlwaysGives, found_worth}
use Rattle.pv_eval.specs.Codes.{CalculatesBy}
use Rattle.pv_eval.proofs.PlainSteps.{some_map}
use Rattle.pv_eval.proofs.plain_coded.arithmetic.Goals as goal

pub returns : goal.returns
returns c =
    some_map (λ z. AlwaysGives (λ b. Calculates c.args.op c.args.kind (found_worth c.in_ok-x.x) (found_worth c.in_ok-y.y)) (found_worth z))
    (λ z. CalculatesBy c.args.op c.args.kind c.args.left c.args.right (found_worth c.args.first) (found_worth c.args.second) (found_worth z)) c.operated.result
    (λ z h. record { x = found_worth c.in_ok-x.x; y = found_worth c.in_ok-y.y; left_is = c.in_ok-x.ensures; right_is = c.in_ok-y.ensures; gives = h }) c.operated.ensures
