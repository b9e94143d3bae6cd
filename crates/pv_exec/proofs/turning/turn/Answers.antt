use Rattle.std.proofs.Common.{subst, arith, Ok, Err}
use Rattle.pv_exec.specs.declared.once.After.{After}
use Rattle.pv_exec.specs.declared.once.After.TheVariants as after
use Rattle.pv_exec.specs.Leading.{OnceLed}
use Rattle.pv_exec.proofs.Pieces.{keeps-both}
use Rattle.pv_exec.proofs.Turns.{until-due-led, until-due-runs, once-led}
use Rattle.pv_exec.proofs.turning.turn.Goals as goal

pub returns-in-Ok-On-clause-holds : goal.returns-in-Ok-On-clause-holds
returns-in-Ok-On-clause-holds c =
    let u = c.args.unit.now in
    let n = c.args.bound in
    let d = c.args.doing in
    let ts = c.args.tasks.now.items in
    let tm = c.once.new.tasks.items in
    let ts' = c.until_asked.new.tasks.items in
    let old = c.args.machine.now in
    let mid = c.once.new.machine in
    let new = c.until_asked.new.machine in
    until-due-led u n d c.in-Ok-On.next c.until_asked.result ts tm ts' old mid new c.requires.room c.once.ensures.taken c.until_asked.ensures.taken c.once.ensures.setting
    (subst (λ (x : After). OnceLed u d (Ok x) ts tm old mid) c.in-Ok-On.field-0-is c.in-Ok-On.ensures.holds) c.until_asked.ensures.holds

pub returns-in-Ok-On-clause-setting : goal.returns-in-Ok-On-clause-setting
returns-in-Ok-On-clause-setting c = keeps-both c.args.machine.now.moment c.once.new.machine.moment c.until_asked.new.machine.moment c.once.ensures.setting c.until_asked.ensures.setting

pub returns-in-Ok-On-clause-runs : goal.returns-in-Ok-On-clause-runs
returns-in-Ok-On-clause-runs c =
    let new = c.until_asked.new.machine in
    until-due-runs c.args.unit.now c.until_asked.new.tasks.items new.started c.until_asked.result c.until_asked.ensures.runs c.until_asked.ensures.fit c.until_asked.ensures.asked

pub returns-in-Ok-On-clause-taken : goal.returns-in-Ok-On-clause-taken
returns-in-Ok-On-clause-taken c = omega (arith, c.until_asked.ensures.taken, c.once.ensures.taken, c.requires.due)

pub returns-in-Ok-Last-clause-holds : goal.returns-in-Ok-Last-clause-holds
returns-in-Ok-Last-clause-holds c =
    let u = c.args.unit.now in
    let d = c.args.doing in
    let ts = c.args.tasks.now.items in
    let ts' = c.once.new.tasks.items in
    let old = c.args.machine.now in
    let new = c.once.new.machine in
    once-led u c.args.bound d (Ok (after.Last c.in-Ok-Last.last)) ts ts' old new c.requires.room c.once.ensures.taken
    (subst (λ (x : After). OnceLed u d (Ok x) ts ts' old new) c.in-Ok-Last.field-0-is c.in-Ok-Last.ensures.holds)

pub returns-in-Err-clause-holds : goal.returns-in-Err-clause-holds
returns-in-Err-clause-holds c =
    let u = c.args.unit.now in
    let d = c.args.doing in
    let ts = c.args.tasks.now.items in
    let ts' = c.once.new.tasks.items in
    let old = c.args.machine.now in
    let new = c.once.new.machine in
    once-led u c.args.bound d (Err c.in-Err.e) ts ts' old new c.requires.room c.once.ensures.taken c.in-Err.ensures.holds
