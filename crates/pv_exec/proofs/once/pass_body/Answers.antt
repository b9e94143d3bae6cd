use Rattle.std.proofs.Common.{◌+◌, ◌≡◌, ap, arith, refl}
use Rattle.pv_eval.specs.Moments.{Moment, state_of}
use Rattle.pv_exec.specs.declared.task.Doing.TheVariants as doing
use Rattle.pv_exec.specs.declared.task.Flow.TheVariants as flow
use Rattle.pv_exec.specs.Works.{does}
use Rattle.pv_exec.proofs.Leaving.{leaves-at}
use Rattle.pv_exec.proofs.Jumping.{absent-is}
use Rattle.pv_exec.proofs.Ticking.{ticked-state}
use Rattle.pv_exec.proofs.once.pass_body.Goals as goal

pub returns-clause-led : goal.returns-clause-led
returns-clause-led c = λ b out es hs hl k le tu lt.
    let u = c.args.unit.now in
    let old = c.args.machine.now in
    let new = c.tick.new.self in
    let s = state_of old.moment out es in
    let taken : new.moment.taken ≡ old.moment.taken + 1 = ap (λ (m : Moment). m.taken) c.tick.ensures.moment in
    leaves-at b u k (does b u k old.started doing.Absent s) flow.Falls old.started new.started (state_of new.moment out es) (omega (arith, lt, taken)) (absent-is b u k old.started s (state_of new.moment out es) (tu refl) (ticked-state old.moment new.moment out es c.tick.ensures.moment)) c.tick.ensures.started
