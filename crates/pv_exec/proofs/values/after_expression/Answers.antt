use Rattle.std.proofs.Common.{refl}
use Rattle.pv_eval.specs.Machines.{after_first, ended_value}
use Rattle.pv_exec.specs.declared.task.Task.TheVariants as task
use Rattle.pv_exec.specs.declared.task.Flow.TheVariants as flow
use Rattle.pv_exec.specs.Tasks.{after_value}
use Rattle.pv_exec.proofs.Leaving.{leaves-here}
use Rattle.pv_exec.proofs.values.after_expression.Goals as goal

pub returns-clause-led : goal.returns-clause-led
unfolding after_value
returns-clause-led c = λ b out es hs hl k le lt.
    let u = c.args.unit.now in
    let old = c.args.machine.now in
    let new = c.value.new.self in
    leaves-here b u k (λ s. after_value b u k task.Dropping (ended_value old.started) s) flow.Falls (after_first old.started) new.started old.moment new.moment out es lt (λ s. refl) c.value.ensures.moment c.value.ensures.started
