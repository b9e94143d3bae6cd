use Rattle.std.proofs.Common.{◌≡◌, ◌∙◌, List, ap, subst, arith}
use Rattle.std.specs.Prelude.{Bool, if◌then◌else◌}
use Rattle.pv_eval.specs.Moments.{state_of}
use Rattle.pv_eval.specs.Machines.{Started, due_turns, after_first}
use Rattle.pv_exec.specs.declared.task.Task.TheVariants as task
use Rattle.pv_exec.specs.declared.task.Doing.TheVariants as doing
use Rattle.pv_exec.specs.Tasks.{after_flow}
use Rattle.pv_exec.specs.Works.{flow_of}
use Rattle.pv_exec.specs.Fits.{WayFitsOr}
use Rattle.pv_exec.proofs.AtOnce.{ended-goes}
use Rattle.pv_exec.proofs.Calling.{ended-no-turns}
use Rattle.pv_exec.proofs.Onward.{leads-then, ends-quick-or}
use Rattle.pv_exec.proofs.Pieces.{setting-stays, before-stays}
use Rattle.pv_exec.proofs.calls.after_call.Goals as goal

pub go_on-requires-clause-going : goal.go_on-requires-clause-going
go_on-requires-clause-going c = ended-goes c.end_call.new.machine.started c.in-Ok.ensures.ended

pub go_on-requires-clause-turn : goal.go_on-requires-clause-turn
go_on-requires-clause-turn c = λ t.
    let es = c.end_call.new.machine.started in
    let one : due_turns es ≡ 1 = ap (λ (q : Bool). if q then 1 else 0) t in
    absurd (omega (arith, ended-no-turns es c.in-Ok.ensures.ended, one))

pub returns-in-Ok-clause-led : goal.returns-in-Ok-clause-led
returns-in-Ok-clause-led c = λ b out es hs hl k le lt.
    let u = c.args.unit.now in
    let old = c.args.machine.now in
    let mid = c.end_call.new.machine in
    let new = c.go_on.new.machine in
    let st = c.end_call.ensures.stays in
    let s = state_of old.moment out es in
    let s' = state_of mid.moment out es in
    let s'' = state_of new.moment out es in
    let none = ended-no-turns mid.started c.in-Ok.ensures.ended in
    leads-then b u (after_flow b u k old.started (task.InCall c.args.f c.args.line) (flow_of c.args.flow) s) (after_first old.started) mid.started new.started doing.Evaluate c.go_on.result s' s'' (c.in-Ok.ensures.led b out es hs hl k le lt)
    (λ j room. c.go_on.ensures.led b out es (setting-stays b u old.moment mid.moment st hs) (before-stays old.moment mid.moment out st hl) j (omega (arith, le, st.taken)) (λ one. absurd (omega (arith, none, one))) room)

pub returns-in-Ok-clause-stays : goal.returns-in-Ok-clause-stays
returns-in-Ok-clause-stays c =
    let st = c.end_call.ensures.stays in
    let go = c.go_on.ensures.setting in
    let none = ended-no-turns c.end_call.new.machine.started c.in-Ok.ensures.ended in
    record {
      total = λ t f. go.total t (st.total t f);
      taken = omega (arith, c.go_on.ensures.taken, none, st.taken);
      sides = go.sides ∙ st.sides;
    }

pub returns-in-Ok-clause-ways : goal.returns-in-Ok-clause-ways
returns-in-Ok-clause-ways c = subst (λ (xs : List Started). WayFitsOr c.args.unit.now xs c.go_on.new.machine.started c.go_on.result) c.in-Ok.ensures.others c.go_on.ensures.ways

pub returns-in-Ok-clause-quick : goal.returns-in-Ok-clause-quick
returns-in-Ok-clause-quick c = ends-quick-or c.go_on.new.machine.started c.go_on.result c.go_on.ensures.quick
