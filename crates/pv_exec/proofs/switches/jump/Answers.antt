use Rattle.std.proofs.Common.{◌∙◌, ◌+◌, ◌≡◌, ap, arith, refl}
use Rattle.pv_eval.specs.Moments.{Moment, state_of}
use Rattle.pv_exec.proofs.Ticking.{ticked-setting, ticked-follows, ticked-state, ticked-keeps}
use Rattle.pv_exec.proofs.Jumping.{jump-enters, jump-stops}
use Rattle.pv_exec.proofs.switches.jump.Goals as goal

pub returns-in-Ok-clause-led : goal.returns-in-Ok-clause-led
returns-in-Ok-clause-led c = λ b out es hs hl k le tu lt.
    let u = c.args.unit.now in
    let old = c.args.machine.now in
    let mid = c.tick.new.self in
    let new = c.make_objects.new.machine in
    let e = c.tick.ensures.moment in
    let hs' = ticked-setting b u old.moment mid.moment e hs in
    let hl' = ticked-follows old.moment mid.moment out e hl in
    let taken : mid.moment.taken ≡ old.moment.taken + 1 = ap (λ (m : Moment). m.taken) e in
    jump-enters b u k c.args.n c.args.l c.args.i old.started new.started (state_of old.moment out es) (state_of mid.moment out es) (state_of new.moment out es) (tu refl) (omega (arith, lt, taken, c.in-Ok.ensures.stays.taken)) (ticked-state old.moment mid.moment out es e) (c.in-Ok.ensures.started ∙ c.tick.ensures.started) (c.in-Ok.ensures.made b out es hs' hl')

pub returns-in-Err-clause-led : goal.returns-in-Err-clause-led
returns-in-Err-clause-led c = λ b out es hs hl k le tu lt.
    let u = c.args.unit.now in
    let old = c.args.machine.now in
    let mid = c.tick.new.self in
    let new = c.make_objects.new.machine in
    let e = c.tick.ensures.moment in
    let hs' = ticked-setting b u old.moment mid.moment e hs in
    let hl' = ticked-follows old.moment mid.moment out e hl in
    jump-stops b u k c.args.n c.args.l c.args.i c.in-Err.e old.started old.started new.started (state_of old.moment out es) (state_of mid.moment out es) (state_of new.moment out es) (tu refl) (ticked-state old.moment mid.moment out es e) (c.in-Err.ensures.made b out es hs' hl')

pub returns-in-Ok-clause-setting : goal.returns-in-Ok-clause-setting
returns-in-Ok-clause-setting c = ticked-keeps c.args.machine.now.moment c.tick.new.self.moment c.make_objects.new.machine.moment c.tick.ensures.moment c.in-Ok.ensures.stays

pub returns-in-Err-clause-setting : goal.returns-in-Err-clause-setting
returns-in-Err-clause-setting c = ticked-keeps c.args.machine.now.moment c.tick.new.self.moment c.make_objects.new.machine.moment c.tick.ensures.moment c.in-Err.ensures.stays
