use Rattle.std.proofs.Common.{ap, ◌∙◌}
use Rattle.pv_world.specs.Coming.{worth_of}
use Rattle.pv_exec.proofs.ByTask.{pass-led}
use Rattle.pv_exec.proofs.resuming.pass_value.Goals as goal

pub returns-in-Ok-clause-led : goal.returns-in-Ok-clause-led
returns-in-Ok-clause-led c = pass-led c.args.unit.now c.args.task c.in-Ok.v c.resume_flow.result c.args.machine.now c.value-v.new.self c.resume_flow.new.machine c.requires.flow c.value-v.ensures.moment c.value-v.ensures.started (ap worth_of c.in-Ok.ensures.value ∙ c.value-v.ensures.value) c.resume_flow.ensures.led
