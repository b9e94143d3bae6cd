use Rattle.pv_eval.specs.MachineSteps.{Fit}
use Rattle.pv_eval_tests.proofs.stepping.evaluate.Given as goal

abbrev pub invariant-steps : goal.invariant-steps
invariant-steps g l = Fit l.unit l.machine.started
