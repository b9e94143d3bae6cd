use Rattle.std.proofs.Common.{arith}
use Rattle.pv_eval.specs.Moments.{state_of}
use Rattle.pv_eval.specs.Machines.{after_first, ended_value}
use Rattle.pv_exec.specs.declared.task.Task.TheVariants as task
use Rattle.pv_exec.specs.declared.task.Flow.TheVariants as flow
use Rattle.pv_exec.specs.Tasks.{after_value}
use Rattle.pv_exec.proofs.Leaving.{leaves-with, leaves-here}
use Rattle.pv_exec.proofs.Returning.{no-return, returned-is, returned-stops}
use Rattle.pv_exec.proofs.values.after_return.Goals as goal

pub returns-in-None-clause-led : goal.returns-in-None-clause-led
returns-in-None-clause-led c = λ b out es hs hl k le lt.
    let u = c.args.unit.now in
    let old = c.args.machine.now in
    let new = c.value.new.self in
    leaves-here b u k (λ s. after_value b u k (task.Returning c.args.n) (ended_value old.started) s) flow.Falls (after_first old.started) new.started old.moment new.moment out es lt (λ s. no-return b u k c.args.n (ended_value old.started) s c.in-None.ensures.value) c.value.ensures.moment c.value.ensures.started

pub returns-in-Ok-clause-led : goal.returns-in-Ok-clause-led
returns-in-Ok-clause-led c = λ b out es hs hl k le lt.
    let u = c.args.unit.now in
    let old = c.args.machine.now in
    let new = c.hand.new.self in
    let s = state_of old.moment out es in
    leaves-with b u k (after_value b u k (task.Returning c.args.n) (ended_value old.started) s) c.in-Ok.v c.leave_with.result (after_first old.started) new.started (state_of new.moment out es) (omega (arith, lt, c.in-Ok.ensures.stays.taken))
    (returned-is b u k c.args.n c.in-Some.x c.line_of.result c.in-Ok.v (ended_value old.started) s (state_of new.moment out es) c.in-Some.ensures.value (c.line_of.ensures.statement c.requires.there) (c.in-Ok.ensures.handed b out es hs hl)) c.in-Ok.ensures.started c.leave_with.ensures.way c.leave_with.ensures.memory

pub returns-in-Err-clause-led : goal.returns-in-Err-clause-led
returns-in-Err-clause-led c = λ b out es hs hl k le lt.
    let u = c.args.unit.now in
    let old = c.args.machine.now in
    let new = c.hand.new.self in
    let s = state_of old.moment out es in
    returned-stops b u k c.args.n c.in-Some.x c.line_of.result c.in-Err.e (after_first old.started) new.started (ended_value old.started) s (state_of new.moment out es) c.in-Some.ensures.value (c.line_of.ensures.statement c.requires.there) (c.in-Err.ensures.handed b out es hs hl)
