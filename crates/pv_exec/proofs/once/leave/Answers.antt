use Rattle.std.proofs.Common.{List, ◌≡◌, [], arith, refl}
use Rattle.std.proofs.lemmas.Grind.{common_steps}
use Rattle.pv_eval.specs.Moments.{state_of}
use Rattle.pv_exec.specs.declared.task.Doing.TheVariants as doing
use Rattle.pv_exec.specs.Tasks.{Left, after_task}
use Rattle.pv_exec.specs.Works.{behind_call, flow_of}
use Rattle.pv_exec.proofs.Works.{popped, at-state, ends-here, left-does, followed-on, followed-out}
use Rattle.std.proofs.Common.{length, ap, ◌∙◌}
use Rattle.std.proofs.lemmas.List.{length_push}
use Rattle.pv_exec.specs.declared.task.Task.{Task}
use Rattle.pv_exec.proofs.Pieces.{stays-keeps}
use Rattle.pv_exec.proofs.Following.{last-of, runs-on, pace-on, quick-pace, fit-on}
use Rattle.pv_eval.specs.MachineSteps.{Fit}
use Rattle.pv_exec.proofs.once.leave.Goals as goal

pub returns-in-None-clause-holds : goal.returns-in-None-clause-holds
returns-in-None-clause-holds c = λ b out es hs hl all tu h.
    let u = c.args.unit.now in
    let old = c.args.machine.now in
    let none : c.args.tasks.now.items ≡ [] = grind (arith, common_steps) in
    ends-here b u all c.args.tasks.now.items old.started (doing.Left c.args.flow) (Left (flow_of c.args.flow)) (state_of old.moment out es) none (λ k. left-does b u k old.started c.args.flow (state_of old.moment out es)) h

pub returns-in-Ok-clause-holds : goal.returns-in-Ok-clause-holds
returns-in-Ok-clause-holds c = λ b out es hs hl all tu h.
    let u = c.args.unit.now in
    let old = c.args.machine.now in
    let new = c.resume_flow-way.new.machine in
    let s = state_of old.moment out es in
    let s' = state_of new.moment out es in
    let ts = c.pop.new.self.items in
    let t = c.in-Some.task in
    let at = old.started in
    let p = popped b u all c.args.tasks.now.items ts t old.started (doing.Left c.args.flow) (Left (flow_of c.args.flow)) s c.in-Some.ensures.items refl (λ k. left-does b u k old.started c.args.flow s) h in
    let w = at-state b u all ts (behind_call t at) (after_task b u p.level at t (Left (flow_of c.args.flow)) s) s s' c.resume_flow-way.ensures.stays.taken p.waits in
    let l = c.resume_flow-way.ensures.led b out es hs hl p.level h.most p.room in
    let f = c.follow.ensures.holds b u all (after_task b u p.level at t (Left (flow_of c.args.flow)) s) (behind_call t at) new.started s' w l in
    followed-on b u all c.follow.result c.in-Ok.doing c.follow.new.tasks.items new.started s' c.in-Ok.is f

pub returns-in-Err-clause-holds : goal.returns-in-Err-clause-holds
returns-in-Err-clause-holds c = λ b out es hs hl all tu h.
    let u = c.args.unit.now in
    let old = c.args.machine.now in
    let new = c.resume_flow-way.new.machine in
    let s = state_of old.moment out es in
    let s' = state_of new.moment out es in
    let ts = c.pop.new.self.items in
    let t = c.in-Some.task in
    let at = old.started in
    let p = popped b u all c.args.tasks.now.items ts t old.started (doing.Left c.args.flow) (Left (flow_of c.args.flow)) s c.in-Some.ensures.items refl (λ k. left-does b u k old.started c.args.flow s) h in
    let w = at-state b u all ts (behind_call t at) (after_task b u p.level at t (Left (flow_of c.args.flow)) s) s s' c.resume_flow-way.ensures.stays.taken p.waits in
    let l = c.resume_flow-way.ensures.led b out es hs hl p.level h.most p.room in
    let f = c.follow.ensures.holds b u all (after_task b u p.level at t (Left (flow_of c.args.flow)) s) (behind_call t at) new.started s' w l in
    followed-out b u all c.follow.result c.in-Err.e c.follow.new.tasks.items new.started s' c.in-Err.is f

pub returns-in-Ok-clause-setting : goal.returns-in-Ok-clause-setting
returns-in-Ok-clause-setting c = stays-keeps c.args.machine.now.moment c.resume_flow-way.new.machine.moment c.resume_flow-way.ensures.stays

pub returns-in-Err-clause-setting : goal.returns-in-Err-clause-setting
returns-in-Err-clause-setting c = stays-keeps c.args.machine.now.moment c.resume_flow-way.new.machine.moment c.resume_flow-way.ensures.stays

pub returns-in-Ok-clause-runs : goal.returns-in-Ok-clause-runs
returns-in-Ok-clause-runs c =
    let u = c.args.unit.now in
    let ts = c.pop.new.self.items in
    let t = c.in-Some.task in
    let at = c.args.machine.now.started in
    let es = c.resume_flow-way.new.machine.started in
    let last = last-of u c.args.tasks.now.items ts t c.args.machine.now.started (doing.Left c.args.flow) c.in-Some.ensures.items c.requires.runs in
    runs-on u c.follow.new.tasks.items es c.follow.result c.in-Ok.doing c.in-Ok.is (c.follow.ensures.runs u (behind_call t at) es last.rest last.below c.resume_flow-way.ensures.ways)

pub returns-in-Ok-clause-pace : goal.returns-in-Ok-clause-pace
returns-in-Ok-clause-pace c = λ z.
    let ts = c.pop.new.self.items in
    let t = c.in-Some.task in
    let es = c.resume_flow-way.new.machine.started in
    let x = quick-pace es c.resume_flow-way.result c.in-Ok.doing (length ts) (length c.follow.new.tasks.items) c.resume_flow-way.ensures.quick (pace-on es c.resume_flow-way.result (length ts) (length c.follow.new.tasks.items) c.follow.result c.in-Ok.doing c.in-Ok.is (c.follow.ensures.pace es)) in
    let n = ap (λ (xs : List Task). length xs) c.in-Some.ensures.items ∙ length_push ts t in
    omega (arith, x, n)

pub returns-in-Ok-clause-fit : goal.returns-in-Ok-clause-fit
returns-in-Ok-clause-fit c =
    let ts = c.pop.new.self.items in
    let es = c.resume_flow-way.new.machine.started in
    fit-on es c.resume_flow-way.result c.in-Ok.doing (length ts) (length c.follow.new.tasks.items) (Fit c.args.unit.now es) (pace-on es c.resume_flow-way.result (length ts) (length c.follow.new.tasks.items) c.follow.result c.in-Ok.doing c.in-Ok.is (c.follow.ensures.pace es)) c.resume_flow-way.ensures.fit
