use Rattle.std.proofs.Common.{subst}
use Rattle.pv_eval.specs.MachineSteps.{WentTo}
use Rattle.pv_eval.specs.declared.frames.Step.{Step}
use Rattle.pv_eval_tests.proofs.stepping.evaluate.Goals as goal

pub value-requires : goal.value-requires
value-requires g c = subst (λ (q : Step). WentTo c.args.unit.now q c.turn.new.machine.started) c.in-Done.is c.in-Ok-turn.ensures.which
