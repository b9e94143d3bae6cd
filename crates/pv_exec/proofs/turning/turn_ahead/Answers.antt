use Rattle.std.proofs.Common.{subst, arith, Ok, Err}
use Rattle.pv_exec.specs.declared.once.After.{After}
use Rattle.pv_exec.specs.declared.once.After.TheVariants as after
use Rattle.pv_exec.specs.Turning.{UntilDueLed, DueAfter}
use Rattle.pv_exec.proofs.Pieces.{keeps-both}
use Rattle.pv_exec.proofs.Turns.{ahead-led, until-last, pace-of}
use Rattle.pv_exec.proofs.turning.turn_ahead.Goals as goal

pub turn-requires-clause-room : goal.turn-requires-clause-room
turn-requires-clause-room c = omega (arith, c.until_due.ensures.taken, c.requires.room)

pub turn-requires-clause-due : goal.turn-requires-clause-due
turn-requires-clause-due c = subst (λ (x : After). DueAfter c.until_due.new.machine.started (Ok x)) c.in-Ok-On.field-0-is c.in-Ok-On.ensures.due

pub returns-in-Ok-On-clause-holds : goal.returns-in-Ok-On-clause-holds
returns-in-Ok-On-clause-holds c =
    let u = c.args.unit.now in
    let d = c.args.doing in
    let ts = c.args.tasks.now.items in
    let tm = c.until_due.new.tasks.items in
    let ts' = c.turn.new.tasks.items in
    let old = c.args.machine.now in
    let mid = c.until_due.new.machine in
    let new = c.turn.new.machine in
    ahead-led u c.args.bound d c.in-Ok-On.next c.turn.result ts tm ts' old mid new c.until_due.ensures.setting
    (subst (λ (x : After). UntilDueLed u d (Ok x) ts tm old mid) c.in-Ok-On.field-0-is c.in-Ok-On.ensures.holds) c.turn.ensures.holds

pub returns-in-Ok-On-clause-setting : goal.returns-in-Ok-On-clause-setting
returns-in-Ok-On-clause-setting c = keeps-both c.args.machine.now.moment c.until_due.new.machine.moment c.turn.new.machine.moment c.until_due.ensures.setting c.turn.ensures.setting

pub returns-in-Ok-On-clause-few : goal.returns-in-Ok-On-clause-few
returns-in-Ok-On-clause-few c = omega (arith, c.until_due.ensures.taken, c.turn.ensures.taken)

pub returns-in-Ok-On-clause-pace : goal.returns-in-Ok-On-clause-pace
returns-in-Ok-On-clause-pace c = pace-of c.args.bound c.args.machine.now.moment.taken c.turn.new.machine.moment.taken c.turn.result (omega (arith, c.until_due.ensures.taken, c.turn.ensures.taken)) (omega (arith, c.until_due.ensures.taken, c.turn.ensures.taken, c.requires.room))

pub returns-in-Ok-Last-clause-holds : goal.returns-in-Ok-Last-clause-holds
returns-in-Ok-Last-clause-holds c =
    let u = c.args.unit.now in
    let d = c.args.doing in
    let ts = c.args.tasks.now.items in
    let ts' = c.until_due.new.tasks.items in
    let old = c.args.machine.now in
    let new = c.until_due.new.machine in
    until-last u c.args.bound d (Ok (after.Last c.in-Ok-Last.last)) ts ts' old new (subst (λ (x : After). UntilDueLed u d (Ok x) ts ts' old new) c.in-Ok-Last.field-0-is c.in-Ok-Last.ensures.holds)

pub returns-in-Ok-Last-clause-few : goal.returns-in-Ok-Last-clause-few
returns-in-Ok-Last-clause-few c = omega (arith, c.until_due.ensures.taken)

pub returns-in-Err-clause-holds : goal.returns-in-Err-clause-holds
returns-in-Err-clause-holds c =
    let u = c.args.unit.now in
    let d = c.args.doing in
    let ts = c.args.tasks.now.items in
    let ts' = c.until_due.new.tasks.items in
    let old = c.args.machine.now in
    let new = c.until_due.new.machine in
    until-last u c.args.bound d (Err c.in-Err.failure) ts ts' old new c.in-Err.ensures.holds

pub returns-in-Err-clause-few : goal.returns-in-Err-clause-few
returns-in-Err-clause-few c = omega (arith, c.until_due.ensures.taken)
