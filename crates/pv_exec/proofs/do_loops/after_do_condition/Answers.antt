use Rattle.std.proofs.Common.{subst, arith, Ok}
use Rattle.std.specs.Prelude.{Bool}
use Rattle.pv_eval.specs.Moments.{Tested, state_of}
use Rattle.pv_eval.specs.Operations.{Tests, act}
use Rattle.pv_eval.specs.Machines.{after_first, ended_value}
use Rattle.pv_exec.specs.declared.task.Task.TheVariants as task
use Rattle.pv_exec.specs.declared.task.Flow.TheVariants as flow
use Rattle.pv_exec.specs.Tasks.{after_value}
use Rattle.pv_exec.proofs.Leaving.{leaves-here}
use Rattle.pv_exec.proofs.Dos.{tested-do-true, tested-do-false, tested-do-stops, no-do-value}
use Rattle.pv_exec.proofs.do_loops.after_do_condition.Goals as goal

pub returns-in-None-clause-led : goal.returns-in-None-clause-led
returns-in-None-clause-led c = λ b out es hs hl k le lt.
    let u = c.args.unit.now in
    let old = c.args.machine.now in
    let new = c.value.new.self in
    leaves-here b u k (λ s. after_value b u k (task.TestedDo c.args.n) (ended_value old.started) s) flow.Falls (after_first old.started) new.started old.moment new.moment out es lt (λ s. no-do-value b u k c.args.n (ended_value old.started) s c.in-None.ensures.value) c.value.ensures.moment c.value.ensures.started

pub returns-then-goes_on-clause-led : goal.returns-then-goes_on-clause-led
returns-then-goes_on-clause-led c = λ b out es hs hl k le lt.
    let u = c.args.unit.now in
    let old = c.args.machine.now in
    let new = c.decide.new.self in
    let s = state_of old.moment out es in
    let s' = state_of new.moment out es in
    let v = ended_value old.started in
    let h = subst (λ (q : Bool). Tested (act b c.line_of.result (Tests v) s) (Ok q) s') c.if-goes_on.true (c.in-Ok.ensures.tested b out es hs hl) in
    tested-do-true b u k c.line_of.result c.args.n c.in-Some.parts (after_first old.started) new.started v s s' (omega (arith, le, c.in-Ok.ensures.stays.taken)) (omega (arith, lt, c.in-Ok.ensures.stays.taken)) c.in-Some.ensures.value (c.line_of.ensures.expression c.in-Some.ensures.there.0) h c.in-Ok.ensures.started

pub returns-else-goes_on-clause-led : goal.returns-else-goes_on-clause-led
returns-else-goes_on-clause-led c = λ b out es hs hl k le lt.
    let u = c.args.unit.now in
    let old = c.args.machine.now in
    let new = c.decide.new.self in
    let s = state_of old.moment out es in
    let s' = state_of new.moment out es in
    let v = ended_value old.started in
    let h = subst (λ (q : Bool). Tested (act b c.line_of.result (Tests v) s) (Ok q) s') c.if-goes_on.false (c.in-Ok.ensures.tested b out es hs hl) in
    tested-do-false b u k c.line_of.result c.args.n c.in-Some.parts (after_first old.started) new.started v s s' (omega (arith, lt, c.in-Ok.ensures.stays.taken)) c.in-Some.ensures.value (c.line_of.ensures.expression c.in-Some.ensures.there.0) h c.in-Ok.ensures.started

pub returns-in-Err-clause-led : goal.returns-in-Err-clause-led
returns-in-Err-clause-led c = λ b out es hs hl k le lt.
    let u = c.args.unit.now in
    let old = c.args.machine.now in
    let new = c.decide.new.self in
    let s = state_of old.moment out es in
    tested-do-stops b u k c.line_of.result c.args.n c.in-Some.parts c.in-Err.e (after_first old.started) new.started (ended_value old.started) s (state_of new.moment out es) c.in-Some.ensures.value (c.line_of.ensures.expression c.in-Some.ensures.there.0) (c.in-Err.ensures.tested b out es hs hl)
