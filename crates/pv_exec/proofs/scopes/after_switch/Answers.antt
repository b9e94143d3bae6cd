use Rattle.std.proofs.Common.{ap}
use Rattle.pv_exec.specs.declared.task.Flow.{Flow}
use Rattle.pv_exec.specs.declared.task.Flow.TheVariants as flow
use Rattle.pv_exec.specs.Flows.{behind_switch}
use Rattle.pv_exec.specs.Works.{flow_of}
use Rattle.pv_exec.proofs.Enters.{leaves}
use Rattle.pv_exec.proofs.scopes.after_switch.Goals as goal

pub returns-in-Breaks-clause-led : goal.returns-in-Breaks-clause-led
returns-in-Breaks-clause-led c = λ b u k es s lt. leaves b u k es (behind_switch (flow_of c.args.flow) s) flow.Falls s lt (ap (λ (fl : Flow). behind_switch (flow_of fl) s) c.in-Breaks.is)

pub returns-in-Falls-clause-led : goal.returns-in-Falls-clause-led
returns-in-Falls-clause-led c = λ b u k es s lt. leaves b u k es (behind_switch (flow_of c.args.flow) s) flow.Falls s lt (ap (λ (fl : Flow). behind_switch (flow_of fl) s) c.in-Falls.is)

pub returns-in-Continues-clause-led : goal.returns-in-Continues-clause-led
returns-in-Continues-clause-led c = λ b u k es s lt. leaves b u k es (behind_switch (flow_of c.args.flow) s) flow.Continues s lt (ap (λ (fl : Flow). behind_switch (flow_of fl) s) c.in-Continues.is)

pub returns-in-Returns-clause-led : goal.returns-in-Returns-clause-led
returns-in-Returns-clause-led c = λ b u k es s lt. leaves b u k es (behind_switch (flow_of c.args.flow) s) (flow.Returns c.in-Returns.v) s lt (ap (λ (fl : Flow). behind_switch (flow_of fl) s) c.in-Returns.is)
