use Rattle.std.specs.Int.{w128}
use Rattle.std.proofs.Common.{List, subst, arith, rules}
use Rattle.std.specs.Prelude.{ℤ}
use Rattle.std.proofs.lemmas.Int.{to_z-of_z}
use Rattle.pv_eval.specs.Machines.{Started}
use Rattle.pv_exec.specs.OfRuns.{below}
use Rattle.pv_exec.specs.Parts.{jumps}
use Rattle.pv_exec.specs.Tasks.{left_flow}
use Rattle.pv_exec.specs.Leading.{Leads}
use Rattle.pv_exec.specs.Fits.{WayFits}
use Rattle.pv_exec.specs.Switches.{selection_in}
use Rattle.pv_eval.specs.Moments.{state_of}
use Rattle.pv_eval.specs.Machines.{after_first, ended_value}
use Rattle.pv_exec.specs.declared.task.Task.TheVariants as task
use Rattle.pv_exec.specs.declared.task.Flow.TheVariants as flow
use Rattle.pv_exec.specs.Tasks.{after_value}
use Rattle.pv_exec.proofs.Leaving.{leaves-here}
use Rattle.pv_exec.proofs.Selecting.{selected-leads, selected-stops, no-selection}
use Rattle.pv_exec.proofs.switches.after_selection.Goals as goal

pub returns-in-None-clause-led : goal.returns-in-None-clause-led
returns-in-None-clause-led c = λ b out es hs hl k le lt.
    let u = c.args.unit.now in
    let old = c.args.machine.now in
    let new = c.value.new.self in
    leaves-here b u k (λ s. after_value b u k (task.Selecting c.args.n) (ended_value old.started) s) flow.Falls (after_first old.started) new.started old.moment new.moment out es lt (λ s. no-selection b u k c.args.n (ended_value old.started) s c.in-None.ensures.value) c.value.ensures.moment c.value.ensures.started

pub returns-in-Ok-clause-led : goal.returns-in-Ok-clause-led
returns-in-Ok-clause-led c = λ b out es hs hl k le lt.
    let u = c.args.unit.now in
    let old = c.args.machine.now in
    let new = c.need.new.self in
    let s = state_of old.moment out es in
    let s' = state_of new.moment out es in
    selected-leads b u k c.args.n c.in-Some.parts c.in-Ok.v c.jump_to.result (after_first old.started) new.started (ended_value old.started) s s' c.in-Some.ensures.value (c.in-Ok.ensures.needed b out es hs hl) c.in-Ok.ensures.started
    (subst (λ (n : ℤ). Leads b u (left_flow (jumps b (below b k) n (selection_in u c.in-Some.parts).block s')) new.started c.jump_to.result new.started s') (to_z-of_z w128 c.in-Ok.v (search rules)) (c.jump_to.ensures.led b k new.started s' (omega (arith, lt, c.in-Ok.ensures.stays.taken))))

pub returns-in-Err-clause-led : goal.returns-in-Err-clause-led
returns-in-Err-clause-led c = λ b out es hs hl k le lt.
    let u = c.args.unit.now in
    let old = c.args.machine.now in
    let new = c.need.new.self in
    selected-stops b u k c.args.n c.in-Some.parts c.in-Err.e (after_first old.started) new.started (ended_value old.started) (state_of old.moment out es) (state_of new.moment out es) c.in-Some.ensures.value (c.in-Err.ensures.needed b out es hs hl)

pub returns-in-Ok-clause-ways : goal.returns-in-Ok-clause-ways
returns-in-Ok-clause-ways c = subst (λ (es : List Started). WayFits c.args.unit.now es c.need.new.self.started c.jump_to.result) c.in-Ok.ensures.started (c.jump_to.ensures.ways c.need.new.self.started).0

pub returns-in-Ok-clause-quick : goal.returns-in-Ok-clause-quick
returns-in-Ok-clause-quick c = (c.jump_to.ensures.ways c.need.new.self.started).1
