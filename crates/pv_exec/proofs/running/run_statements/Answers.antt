use Rattle.std.proofs.Common.{◌≡◌, ap, subst, Ok, arith}
use Rattle.pv_eval.specs.Machines.{Machine}
use Rattle.pv_exec.specs.declared.once.After.{After}
use Rattle.pv_exec.specs.Turning.{AdvancedLed, AdvancedRuns, AdvancedPace}
use Rattle.pv_exec.proofs.Streaming.{streaming-first, runs-first-of-all, streaming-on, streaming-delivered, fit-delivered, runs-delivered, asked-delivered, led-last, led-broken, led-undelivered}
use Rattle.pv_exec.proofs.MainPieces.{cause-operation}
use Rattle.pv_exec.proofs.running.run_statements.Goals as goal

pub statements-init : goal.statements-init
statements-init g c = record {
  streamed = streaming-first c.args.unit.now _ c.args.bound c.args.doing _ c.args.machine.now c.requires.fresh c.new-tasks.ensures.items;
  later = omega arith;
  fit = c.requires.fit;
  runs = runs-first-of-all c.args.unit.now c.args.doing _ c.args.machine.now.started c.new-tasks.ensures.items c.requires.runs;
  due = c.requires.asked;
}

pub advance-requires-clause-runs : goal.advance-requires-clause-runs
advance-requires-clause-runs g c = runs-delivered c.args.unit.now c.statements.tasks.items c.statements.doing c.statements.machine c.deliver.new.machine c.in-Ok.ensures.delivered c.statements.invariant.runs

pub advance-requires-clause-fit : goal.advance-requires-clause-fit
advance-requires-clause-fit g c = fit-delivered c.args.unit.now c.statements.machine c.deliver.new.machine c.in-Ok.ensures.delivered c.statements.invariant.fit

pub advance-requires-clause-asked : goal.advance-requires-clause-asked
advance-requires-clause-asked g c = asked-delivered c.statements.doing c.statements.machine c.deliver.new.machine c.in-Ok.ensures.delivered c.statements.invariant.due

pub statements-preserved : goal.statements-preserved
statements-preserved g c =
    let u = c.args.unit.now in
    let m0 = c.args.machine.now in
    let m1 = c.statements.machine in
    let m2 = c.deliver.new.machine in
    let m3 = c.advance.new.machine in
    let inv = c.statements.invariant in
    let out = streaming-delivered u c.args.bound c.statements.written c.deliver.new.written m1.moment.taken c.args.doing c.statements.doing c.statements.tasks.items m0 m1 m2 inv.runs inv.due inv.streamed c.in-Ok.ensures.delivered in
    let on = c.in-Ok-On.field-0-is in
    let holds = subst (λ (a : After). AdvancedLed u c.args.bound c.statements.doing (Ok a) c.statements.tasks.items c.advance.new.tasks.items m2 m3) on c.in-Ok-On.ensures.holds in
    let runs = subst (λ (a : After). AdvancedRuns u c.advance.new.tasks.items m3.started (Ok a)) on c.in-Ok-On.ensures.runs in
    let pace = subst (λ (a : After). AdvancedPace c.args.bound m2.moment.taken m3.moment.taken (Ok a)) on c.in-Ok-On.ensures.pace in
    record {
      streamed = streaming-on u c.args.bound c.deliver.new.written c.args.doing c.statements.doing c.in-Ok-On.next c.statements.tasks.items c.advance.new.tasks.items m0 m2 m3 out holds c.advance.ensures.cut c.advance.ensures.setting pace.0 pace.1;
      later = omega (arith, inv.later, c.deliver.ensures.cause.later);
      fit = runs.1;
      runs = runs.0;
      due = runs.2;
    }

pub statements-smaller : goal.statements-smaller
statements-smaller g c =
    let same : c.deliver.new.machine.moment.taken ≡ c.statements.machine.moment.taken = ap (λ (q : Machine). q.moment.taken) c.in-Ok.ensures.delivered.same in
    let pace = subst (λ (a : After). AdvancedPace c.args.bound c.deliver.new.machine.moment.taken c.advance.new.machine.moment.taken (Ok a)) c.in-Ok-On.field-0-is c.in-Ok-On.ensures.pace in
    omega (arith, same, pace.0, pace.1)

pub returns-in-Ok-Last-clause-ended : goal.returns-in-Ok-Last-clause-ended
returns-in-Ok-Last-clause-ended g c =
    let u = c.args.unit.now in
    let m0 = c.args.machine.now in
    let m1 = c.statements.machine in
    let m2 = c.deliver.new.machine in
    let m3 = c.advance.new.machine in
    let inv = c.statements.invariant in
    let out = streaming-delivered u c.args.bound c.statements.written c.deliver.new.written m1.moment.taken c.args.doing c.statements.doing c.statements.tasks.items m0 m1 m2 inv.runs inv.due inv.streamed c.in-Ok.ensures.delivered in
    let holds = subst (λ (a : After). AdvancedLed u c.args.bound c.statements.doing (Ok a) c.statements.tasks.items c.advance.new.tasks.items m2 m3) c.in-Ok-Last.field-0-is c.in-Ok-Last.ensures.holds in
    led-last u c.args.bound c.deliver.new.written c.args.doing c.statements.doing c.in-Ok-Last.last c.statements.tasks.items c.advance.new.tasks.items m0 m2 m3 out holds c.advance.ensures.cut c.advance.ensures.setting

pub returns-in-Err-advance-clause-ended : goal.returns-in-Err-advance-clause-ended
returns-in-Err-advance-clause-ended g c =
    let u = c.args.unit.now in
    let m0 = c.args.machine.now in
    let m1 = c.statements.machine in
    let m2 = c.deliver.new.machine in
    let inv = c.statements.invariant in
    let out = streaming-delivered u c.args.bound c.statements.written c.deliver.new.written m1.moment.taken c.args.doing c.statements.doing c.statements.tasks.items m0 m1 m2 inv.runs inv.due inv.streamed c.in-Ok.ensures.delivered in
    led-broken u c.args.bound c.deliver.new.written c.args.doing c.statements.doing c.in-Err-advance.e c.statements.tasks.items c.advance.new.tasks.items m0 m2 c.advance.new.machine out c.in-Err-advance.ensures.holds c.advance.ensures.cut

pub returns-in-Err-advance-clause-cause : goal.returns-in-Err-advance-clause-cause
returns-in-Err-advance-clause-cause g c =
    cause-operation c.in-Err-advance.e (g.O.Sink.faults c.args.out.now) (g.O.Sink.faults c.deliver.new.out) (omega (arith, c.statements.invariant.later, c.deliver.ensures.cause.later))

pub returns-in-Err-clause-ended : goal.returns-in-Err-clause-ended
returns-in-Err-clause-ended g c =
    let m1 = c.statements.machine in
    let inv = c.statements.invariant in
    led-undelivered _ _ _ c.args.unit.now c.args.bound c.statements.written c.deliver.new.written c.args.doing c.statements.doing c.statements.tasks.items c.args.machine.now m1 c.deliver.new.machine c.in-Err.e inv.runs inv.due inv.streamed c.in-Err.ensures.delivered
