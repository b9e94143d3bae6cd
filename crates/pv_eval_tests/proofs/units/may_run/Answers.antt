use Rattle.pv_eval_tests.proofs.Runnable.{runnable}
use Rattle.pv_eval_tests.proofs.units.may_run.Goals as goal

pub returns : goal.returns
returns c = runnable c.args.unit.now c.requires
