use Rattle.std.proofs.Common.{arith, refl}
use Rattle.pv_eval.specs.Moments.{state_of}
use Rattle.pv_exec.specs.declared.task.Flow.TheVariants as flow
use Rattle.pv_exec.specs.declared.task.Doing.TheVariants as doing
use Rattle.pv_exec.specs.Works.{does}
use Rattle.pv_exec.proofs.Leaving.{leaves-at}
use Rattle.pv_exec.proofs.Listing.{within-leads, no-within}
use Rattle.pv_exec.proofs.lists.within.Goals as goal

pub returns-in-None-clause-led : goal.returns-in-None-clause-led
returns-in-None-clause-led c = λ b out es hs hl k le tu lt.
    let u = c.args.unit.now in
    let old = c.args.machine.now in
    let s = state_of old.moment out es in
    leaves-at b u k (does b u k old.started (doing.Within c.args.n) s) flow.Falls old.started old.started s (omega (arith, lt)) (no-within b u k c.args.n old.started s c.in-None.ensures.value) refl

pub returns-in-Some-clause-led : goal.returns-in-Some-clause-led
returns-in-Some-clause-led c = λ b out es hs hl k le tu lt.
    let u = c.args.unit.now in
    let old = c.args.machine.now in
    within-leads b u k c.args.n c.in-Some.l old.started (state_of old.moment out es) (omega (arith, lt)) c.in-Some.ensures.value
