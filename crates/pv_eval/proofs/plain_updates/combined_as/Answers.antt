use Rattle.pv_world.specs.declared.got.How.TheVariants.{Rounds}
use Rattle.pv_eval.specs.Operations.{Converts}
use Rattle.pv_eval.specs.Plainly.{AlwaysGives, CombinesTo, found_worth}
use Rattle.pv_eval.proofs.PlainSteps.{some_map}
use Rattle.pv_eval.proofs.PlainUpdates.{combines_to}
use Rattle.pv_eval.proofs.plain_updates.combined_as.Goals as goal

pub returns : goal.returns
returns c = λ x second h.
    let k = c.args.back in
    let v = found_worth c.args.v in
    let z = found_worth c.in_ok-z.z in
    some_map (λ q. AlwaysGives (λ b. Converts (Rounds k) z) (found_worth q)) (λ q. CombinesTo x c.args.op c.args.at k v second (found_worth q)) c.kept-2.result
    (λ q g. combines_to x c.args.op c.args.at k v second (found_worth c.in_ok-left.left) (found_worth c.args.right) z (found_worth q) c.in_ok-left.ensures h c.in_ok-z.ensures g) c.kept-2.ensures
