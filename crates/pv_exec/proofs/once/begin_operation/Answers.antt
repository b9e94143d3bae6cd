use Rattle.pv_eval.specs.Moments.{state_of}
use Rattle.pv_exec.specs.Works.{others}
use Rattle.pv_exec.specs.Leading.{HoldsAfter}
use Rattle.pv_exec.specs.declared.once.After.TheVariants as after
use Rattle.std.proofs.Common.{Ok, Err}
use Rattle.pv_exec.proofs.Works.{operated, followed-on, followed-out}
use Rattle.std.proofs.Common.{length}
use Rattle.pv_exec.proofs.Following.{runs-on, pace-on, goes-pace, fit-on}
use Rattle.pv_eval.specs.MachineSteps.{Fit}
use Rattle.pv_exec.proofs.once.begin_operation.Goals as goal

pub returns-in-Ok-clause-holds : goal.returns-in-Ok-clause-holds
returns-in-Ok-clause-holds c = λ b out es hs hl all lt h.
    let u = c.args.unit.now in
    let old = c.args.machine.now in
    let new = c.operate-way.new.machine in
    let s = state_of old.moment out es in
    let s' = state_of new.moment out es in
    let d = c.args.doing in
    let tasks = c.args.tasks.now.items in
    let last = c.follow.new.tasks.items in
    operated b u all tasks old.started d s s' c.operate-way.result new.started (HoldsAfter b u all (Ok (after.On c.in-Ok.next)) last new.started s') h c.operate-way.ensures.taken lt (c.operate-way.ensures.led b out es hs hl)
    (λ next w l. followed-on b u all c.follow.result c.in-Ok.next last new.started s' c.in-Ok.is (c.follow.ensures.holds b u all next (others old.started d) new.started s' w l))

pub returns-in-Err-clause-holds : goal.returns-in-Err-clause-holds
returns-in-Err-clause-holds c = λ b out es hs hl all lt h.
    let u = c.args.unit.now in
    let old = c.args.machine.now in
    let new = c.operate-way.new.machine in
    let s = state_of old.moment out es in
    let s' = state_of new.moment out es in
    let d = c.args.doing in
    let tasks = c.args.tasks.now.items in
    let last = c.follow.new.tasks.items in
    operated b u all tasks old.started d s s' c.operate-way.result new.started (HoldsAfter b u all (Err c.in-Err.e) last new.started s') h c.operate-way.ensures.taken lt (c.operate-way.ensures.led b out es hs hl)
    (λ next w l. followed-out b u all c.follow.result c.in-Err.e last new.started s' c.in-Err.is (c.follow.ensures.holds b u all next (others old.started d) new.started s' w l))

pub returns-in-Ok-clause-runs : goal.returns-in-Ok-clause-runs
returns-in-Ok-clause-runs c =
    let u = c.args.unit.now in
    let es = c.operate-way.new.machine.started in
    runs-on u c.follow.new.tasks.items es c.follow.result c.in-Ok.next c.in-Ok.is (c.follow.ensures.runs u (others c.args.machine.now.started c.args.doing) es c.requires.runs.tasks_fit c.requires.runs.stand c.operate-way.ensures.ways)

pub returns-in-Ok-clause-pace : goal.returns-in-Ok-clause-pace
returns-in-Ok-clause-pace c = λ z.
    let old = c.args.machine.now.started in
    let es = c.operate-way.new.machine.started in
    let k = length c.args.tasks.now.items in
    let j = length c.follow.new.tasks.items in
    goes-pace old es c.args.doing c.operate-way.result c.in-Ok.next k j c.requires.going z c.operate-way.ensures.pace (pace-on es c.operate-way.result k j c.follow.result c.in-Ok.next c.in-Ok.is (c.follow.ensures.pace es))

pub returns-in-Ok-clause-fit : goal.returns-in-Ok-clause-fit
returns-in-Ok-clause-fit c =
    let es = c.operate-way.new.machine.started in
    let k = length c.args.tasks.now.items in
    let j = length c.follow.new.tasks.items in
    fit-on es c.operate-way.result c.in-Ok.next k j (Fit c.args.unit.now es) (pace-on es c.operate-way.result k j c.follow.result c.in-Ok.next c.in-Ok.is (c.follow.ensures.pace es)) c.operate-way.ensures.fit
