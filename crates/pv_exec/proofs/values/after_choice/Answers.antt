use Rattle.std.proofs.Common.{sym, arith}
use Rattle.pv_exec.specs.Tasks.{after_value}
use Rattle.pv_eval.specs.Moments.{state_of}
use Rattle.pv_eval.specs.Machines.{after_first, ended_value}
use Rattle.pv_exec.specs.declared.task.Task.TheVariants as task
use Rattle.pv_exec.specs.declared.task.Flow.TheVariants as flow
use Rattle.pv_exec.specs.declared.task.Doing.{Doing}
use Rattle.pv_exec.specs.declared.task.Way.TheVariants as way
use Rattle.pv_exec.specs.Leading.{Leads}
use Rattle.pv_exec.proofs.Leaving.{leaves-here}
use Rattle.pv_exec.proofs.Choosing.{chosen-leads, chosen-stops, no-choice}
use Rattle.std.proofs.Common.{subst}
use Rattle.pv_exec.proofs.values.after_choice.Goals as goal

pub returns-in-None-clause-led : goal.returns-in-None-clause-led
returns-in-None-clause-led c = λ b out es hs hl k le lt.
    let u = c.args.unit.now in
    let old = c.args.machine.now in
    let new = c.value.new.self in
    leaves-here b u k (λ s. after_value b u k (task.Chosen c.args.n) (ended_value old.started) s) flow.Falls (after_first old.started) new.started old.moment new.moment out es lt (λ s. no-choice b u k c.args.n (ended_value old.started) s c.in-None.ensures.value) c.value.ensures.moment c.value.ensures.started

pub returns-in-Ok-clause-led : goal.returns-in-Ok-clause-led
returns-in-Ok-clause-led c = λ b out es hs hl k le lt.
    let u = c.args.unit.now in
    let old = c.args.machine.now in
    let new = c.decide.new.self in
    let s = state_of old.moment out es in
    let s' = state_of new.moment out es in
    subst (λ (d : Doing). Leads b u (after_value b u k (task.Chosen c.args.n) (ended_value old.started) s) (after_first old.started) (way.Do d) new.started s') (sym c.side.ensures)
    (chosen-leads b u k c.line_of.result c.args.n c.in-Some.parts c.in-Ok.yes (after_first old.started) new.started (ended_value old.started) s s' (omega (arith, lt, c.in-Ok.ensures.stays.taken)) c.in-Some.ensures.value (c.line_of.ensures.expression c.in-Some.ensures.there.0) (c.in-Ok.ensures.tested b out es hs hl) c.in-Ok.ensures.started)

pub returns-in-Err-clause-led : goal.returns-in-Err-clause-led
returns-in-Err-clause-led c = λ b out es hs hl k le lt.
    let u = c.args.unit.now in
    let old = c.args.machine.now in
    let new = c.decide.new.self in
    let s = state_of old.moment out es in
    chosen-stops b u k c.line_of.result c.args.n c.in-Some.parts c.in-Err.e (after_first old.started) new.started (ended_value old.started) s (state_of new.moment out es) c.in-Some.ensures.value (c.line_of.ensures.expression c.in-Some.ensures.there.0) (c.in-Err.ensures.tested b out es hs hl)
