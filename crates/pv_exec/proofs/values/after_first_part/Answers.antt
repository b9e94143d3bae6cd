use Rattle.std.proofs.Common.{◌∙◌, arith}
use Rattle.pv_eval.specs.Moments.{state_of}
use Rattle.pv_eval.specs.Machines.{after_first, ended_value}
use Rattle.pv_exec.specs.declared.task.Task.TheVariants as task
use Rattle.pv_exec.specs.Tasks.{after_value}
use Rattle.pv_exec.proofs.Leaving.{at-both}
use Rattle.pv_exec.proofs.values.after_first_part.Goals as goal

pub returns-clause-led : goal.returns-clause-led
unfolding after_value
returns-clause-led c = λ b out es hs hl k le lt.
    let u = c.args.unit.now in
    let old = c.args.machine.now in
    let mid = c.value.new.self in
    let new = c.begin_round.new.machine in
    let s = state_of old.moment out es in
    at-both b u (after_value b u k (task.First c.args.n) (ended_value old.started) s) (after_first old.started) mid.started new.started c.begin_round.result old.moment new.moment out es (c.begin_round.ensures.moment ∙ c.value.ensures.moment) c.value.ensures.started (c.begin_round.ensures.led b k s (omega (arith, lt)))
