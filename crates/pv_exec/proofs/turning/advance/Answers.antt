use Rattle.std.proofs.Common.{◌+◌, ◌<◌, ◌≤◌, sym, subst, arith}
use Rattle.pv_eval.specs.Moments.{state_of}
use Rattle.pv_eval.specs.Machines.{Machine}
use Rattle.pv_eval.specs.MachineSteps.{KeepsSetting}
use Rattle.pv_exec.specs.Fits.{Runs}
use Rattle.pv_exec.specs.Turning.{AdvancedLed, AdvancedPace}
use Rattle.pv_exec.proofs.Bounds.{holds-asked, has-stores}
use Rattle.pv_exec.proofs.Pieces.{keeps-both}
use Rattle.pv_exec.proofs.Turns.{until-due-runs, pace-of}
use Rattle.pv_exec.proofs.AtOnce.{at-once-until-due, cut-until-due, cut-few, cut-none, runs-at-once}
use Rattle.pv_exec.proofs.turning.advance.Goals as goal

pub returns-then-turns-bound-clause-holds : goal.returns-then-turns-bound-clause-holds
returns-then-turns-bound-clause-holds c = λ b out es hs hl all e h.
    let u = c.args.unit.now in
    let old = c.args.machine.now in
    holds-asked b u all c.args.tasks.now.items old.started c.args.doing (state_of old.moment out es) c.requires.asked (has-stores b u old.started c.args.doing hs.unit c.requires.runs.doing_fits) c.requires.runs.doing_fits (omega (arith, e, c.if-turns-bound.true, c.turns.ensures)) h

pub returns-then-turns-bound-clause-cut : goal.returns-then-turns-bound-clause-cut
returns-then-turns-bound-clause-cut c = cut-none c.args.unit.now c.args.doing c.args.tasks.now.items c.args.machine.now

pub at_once-requires-clause-fits : goal.at_once-requires-clause-fits
at_once-requires-clause-fits c = c.requires.runs.doing_fits

pub at_once-requires-clause-room : goal.at_once-requires-clause-room
at_once-requires-clause-room c = omega (arith, c.if-turns-bound.false, c.turns.ensures)

pub until_asked-requires-clause-runs : goal.until_asked-requires-clause-runs
until_asked-requires-clause-runs c =
    let old = c.args.machine.now.started in
    let e = c.in-Some.next in
    runs-at-once c.args.unit.now c.args.tasks.now.items old c.at_once.new.machine.started c.args.doing e c.requires.runs c.in-Some.ensures.some.waiting c.in-Some.ensures.some.fits

pub returns-in-Some-clause-holds : goal.returns-in-Some-clause-holds
returns-in-Some-clause-holds c =
    let u = c.args.unit.now in
    let n = c.args.bound in
    let d = c.args.doing in
    let e = c.in-Some.next in
    let ts = c.args.tasks.now.items in
    let ts' = c.until_asked.new.tasks.items in
    let old = c.args.machine.now in
    let mid = c.at_once.new.machine in
    let new = c.until_asked.new.machine in
    let comes = c.in-Some.ensures.some in
    at-once-until-due u n d e c.until_asked.result ts ts' old mid new comes.within c.until_asked.ensures.taken c.at_once.ensures.setting (comes.led ts) c.until_asked.ensures.holds

pub returns-in-Some-clause-setting : goal.returns-in-Some-clause-setting
returns-in-Some-clause-setting c = keeps-both c.args.machine.now.moment c.at_once.new.machine.moment c.until_asked.new.machine.moment c.at_once.ensures.setting c.until_asked.ensures.setting

pub returns-in-Some-clause-runs : goal.returns-in-Some-clause-runs
returns-in-Some-clause-runs c =
    let new = c.until_asked.new.machine in
    until-due-runs c.args.unit.now c.until_asked.new.tasks.items new.started c.until_asked.result c.until_asked.ensures.runs c.until_asked.ensures.fit c.until_asked.ensures.asked

pub returns-in-Some-clause-cut : goal.returns-in-Some-clause-cut
returns-in-Some-clause-cut c =
    let ts = c.args.tasks.now.items in
    cut-until-due c.args.unit.now c.args.doing ts c.args.machine.now c.at_once.new.machine c.until_asked.new.machine c.until_asked.ensures.taken (c.in-Some.ensures.some.cut ts)

pub returns-in-Some-clause-pace : goal.returns-in-Some-clause-pace
returns-in-Some-clause-pace c =
    let more = c.in-Some.ensures.some.more in
    let within = c.in-Some.ensures.some.within in
    pace-of c.args.bound c.args.machine.now.moment.taken c.until_asked.new.machine.moment.taken c.until_asked.result (omega (arith, c.until_asked.ensures.taken, more)) (omega (arith, c.until_asked.ensures.taken, within))

pub turn_on-requires-clause-runs : goal.turn_on-requires-clause-runs
turn_on-requires-clause-runs c = subst (λ (q : Machine). Runs c.args.unit.now c.args.tasks.now.items q.started c.args.doing) (sym c.in-None.ensures.none) c.requires.runs

pub turn_on-requires-clause-room : goal.turn_on-requires-clause-room
turn_on-requires-clause-room c =
    let room : c.args.machine.now.moment.taken < c.args.bound = omega (arith, c.if-turns-bound.false, c.turns.ensures) in
    subst (λ (q : Machine). q.moment.taken < c.args.bound) (sym c.in-None.ensures.none) room

pub returns-in-None-clause-holds : goal.returns-in-None-clause-holds
returns-in-None-clause-holds c =
    subst (λ (q : Machine). AdvancedLed c.args.unit.now c.args.bound c.args.doing c.turn_on.result c.args.tasks.now.items c.turn_on.new.tasks.items q c.turn_on.new.machine) c.in-None.ensures.none c.turn_on.ensures.holds

pub returns-in-None-clause-setting : goal.returns-in-None-clause-setting
returns-in-None-clause-setting c = subst (λ (q : Machine). KeepsSetting q.moment c.turn_on.new.machine.moment) c.in-None.ensures.none c.turn_on.ensures.setting

pub returns-in-None-clause-cut : goal.returns-in-None-clause-cut
returns-in-None-clause-cut c =
    let old = c.args.machine.now in
    let new = c.turn_on.new.machine in
    let few : new.moment.taken ≤ old.moment.taken + 1 = subst (λ (q : Machine). new.moment.taken ≤ q.moment.taken + 1) c.in-None.ensures.none c.turn_on.ensures.few in
    cut-few c.args.unit.now c.args.doing c.args.tasks.now.items old new c.requires.asked c.requires.runs.doing_fits few

pub returns-in-None-clause-pace : goal.returns-in-None-clause-pace
returns-in-None-clause-pace c =
    subst (λ (q : Machine). AdvancedPace c.args.bound q.moment.taken c.turn_on.new.machine.moment.taken c.turn_on.result) c.in-None.ensures.none c.turn_on.ensures.pace
