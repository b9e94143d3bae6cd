use Rattle.std.proofs.Common.{◌≡◌, true, rules}
use Rattle.pv_eval.specs.Machines.{is_due}
use Rattle.pv_eval_tests.proofs.Going.{due_goes}
use Rattle.pv_eval_tests.proofs.stepping.turn.Goals as goal

pub step-requires-clause-going : goal.step-requires-clause-going
step-requires-clause-going g c =
    let is : is_due c.args.machine.now.started ≡ true = search rules in
    due_goes c.args.machine.now.started is
