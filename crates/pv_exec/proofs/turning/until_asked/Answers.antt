use Rattle.std.proofs.Common.{◌≡◌, length, false, subst, arith, rules, Ok}
use Rattle.pv_eval.specs.Moments.{state_of}
use Rattle.pv_exec.specs.declared.once.After.{After}
use Rattle.pv_exec.specs.Works.{turn_due}
use Rattle.pv_exec.specs.Leading.{HoldsAfter}
use Rattle.pv_exec.specs.Fits.{AfterRuns}
use Rattle.pv_exec.specs.Pace.{doing_ops, AfterPace}
use Rattle.pv_exec.proofs.Pieces.{keeps-both}
use Rattle.pv_exec.proofs.Turns.{keeps-setting, undue, not-due, unasked-undue}
use Rattle.pv_exec.proofs.turning.until_asked.Goals as goal

pub operations-preserved : goal.operations-preserved
operations-preserved c =
    let u = c.args.unit.now in
    let m0 = c.args.machine.now in
    let m1 = c.operations.machine in
    let m2 = c.once.new.machine in
    let inv = c.operations.invariant in
    let f : c.is_asked.result ≡ false = search rules in
    let z = unasked-undue m1.started c.operations.doing (undue (turn_due m1.started c.operations.doing) c.is_asked.result c.is_asked.ensures f) in
    record {
      held = λ b out es hs hl all h.
          subst (λ (x : After). HoldsAfter b u all (Ok x) c.once.new.tasks.items m2.started (state_of m2.moment out es)) c.in-Ok-On.field-0-is
          (c.in-Ok-On.ensures.holds b out es (keeps-setting b u m0.moment m1.moment inv.setting hs) (inv.setting.total (length out) hl) all (not-due _ z) (inv.held b out es hs hl all h));
      setting = keeps-both m0.moment m1.moment m2.moment inv.setting c.once.ensures.setting;
      taken = omega (arith, z, c.once.ensures.taken, inv.taken);
      fit = c.in-Ok-On.ensures.fit;
      runs = subst (λ (x : After). AfterRuns u c.once.new.tasks.items m2.started (Ok x)) c.in-Ok-On.field-0-is c.in-Ok-On.ensures.runs;
    }

pub returns-in-Err-clause-holds : goal.returns-in-Err-clause-holds
returns-in-Err-clause-holds c = λ b out es hs hl all h.
    let u = c.args.unit.now in
    let m0 = c.args.machine.now in
    let m1 = c.operations.machine in
    let inv = c.operations.invariant in
    let f : c.is_asked.result ≡ false = search rules in
    let z = unasked-undue m1.started c.operations.doing (undue (turn_due m1.started c.operations.doing) c.is_asked.result c.is_asked.ensures f) in
    c.in-Err.ensures.holds b out es (keeps-setting b u m0.moment m1.moment inv.setting hs) (inv.setting.total (length out) hl) all (not-due _ z) (inv.held b out es hs hl all h)

pub returns-in-Err-clause-setting : goal.returns-in-Err-clause-setting
returns-in-Err-clause-setting c = keeps-both c.args.machine.now.moment c.operations.machine.moment c.once.new.machine.moment c.operations.invariant.setting c.once.ensures.setting

pub returns-in-Ok-Last-clause-holds : goal.returns-in-Ok-Last-clause-holds
returns-in-Ok-Last-clause-holds c = λ b out es hs hl all h.
    let u = c.args.unit.now in
    let m0 = c.args.machine.now in
    let m1 = c.operations.machine in
    let m2 = c.once.new.machine in
    let inv = c.operations.invariant in
    let f : c.is_asked.result ≡ false = search rules in
    let z = unasked-undue m1.started c.operations.doing (undue (turn_due m1.started c.operations.doing) c.is_asked.result c.is_asked.ensures f) in
    subst (λ (x : After). HoldsAfter b u all (Ok x) c.once.new.tasks.items m2.started (state_of m2.moment out es)) c.in-Ok-Last.field-0-is
    (c.in-Ok-Last.ensures.holds b out es (keeps-setting b u m0.moment m1.moment inv.setting hs) (inv.setting.total (length out) hl) all (not-due _ z) (inv.held b out es hs hl all h))

pub returns-in-Ok-Last-clause-setting : goal.returns-in-Ok-Last-clause-setting
returns-in-Ok-Last-clause-setting c = keeps-both c.args.machine.now.moment c.operations.machine.moment c.once.new.machine.moment c.operations.invariant.setting c.once.ensures.setting

pub once-requires-clause-turn : goal.once-requires-clause-turn
once-requires-clause-turn c =
    let m1 = c.operations.machine in
    let f : c.is_asked.result ≡ false = search rules in
    let z = unasked-undue m1.started c.operations.doing (undue (turn_due m1.started c.operations.doing) c.is_asked.result c.is_asked.ensures f) in
    λ one. not-due _ z one

pub operations-smaller : goal.operations-smaller
operations-smaller c =
    let m1 = c.operations.machine in
    let f : c.is_asked.result ≡ false = search rules in
    let z = unasked-undue m1.started c.operations.doing (undue (turn_due m1.started c.operations.doing) c.is_asked.result c.is_asked.ensures f) in
    subst (λ (x : After). AfterPace (doing_ops m1.started c.operations.doing (length c.operations.tasks.items)) (Ok x) c.once.new.tasks.items c.once.new.machine.started) c.in-Ok-On.field-0-is (c.in-Ok-On.ensures.pace z)
