use Rattle.std.proofs.Common.{◌∙◌, ap, sym, subst}
use Rattle.std.specs.Prelude.{Err}
use Rattle.pv_eval.specs.Machines.{first_machine}
use Rattle.pv_exec.specs.declared.program.RunError.{RunError}
use Rattle.pv_exec.specs.Run.{setting_of, run_of}
use Rattle.pv_exec.specs.Answering.{ToldOr, StreamedOr, end_of, highs, outlet}
use Rattle.pv_exec.specs.Stages.{stage_of}
use Rattle.pv_exec.proofs.Outside.{run-over, over, streams-over, ran-as, gained, gained-part, told-end, fault-later, lost-part, lost-told, run-stands, stands-over, streamed-end, streamed-lost, words-end}
use Rattle.pv_exec.proofs.Settling.Clauses.{late-answer, sooner-answer}
use Rattle.pv_exec.proofs.program.run.Goals as goal

pub returns-in-Some-outcome_by-clause-ran : goal.returns-in-Some-outcome_by-clause-ran
returns-in-Some-outcome_by-clause-ran g c =
    let u = c.args.u.now in
    let hs = highs c.args.sides (λ x. x.now) in
    let R = run_of (setting_of u c.args.bound hs c.args.zap) c.args.script in
    let m = c.run_unit-ended.new.machine in
    let x = c.run_unit-ended.result in
    let led = c.run_unit-ended.ensures.ended in
    let e = run-over u c.args.bound hs c.args.zap c.args.script c.in-Ok.machine m x (c.in-Ok.ensures.value ∙ ap (λ hs. first_machine c.args.script hs c.args.zap) c.in-Some.ensures) led in
    let o = c.in-Some-outcome_by.outcome in
    let v = over R x o m.moment led.bytes led.events (sym c.in-Some-outcome_by.ensures) e in
    ran-as R o m.moment led.bytes led.events c.answer.result v c.answer.ensures.ran

pub returns-in-Some-outcome_by-clause-gains : goal.returns-in-Some-outcome_by-clause-gains
returns-in-Some-outcome_by-clause-gains g c =
    let u = c.args.u.now in
    let hs = highs c.args.sides (λ x. x.now) in
    let R = run_of (setting_of u c.args.bound hs c.args.zap) c.args.script in
    let m = c.run_unit-ended.new.machine in
    let x = c.run_unit-ended.result in
    let led = c.run_unit-ended.ensures.ended in
    let e = run-over u c.args.bound hs c.args.zap c.args.script c.in-Ok.machine m x (c.in-Ok.ensures.value ∙ ap (λ hs. first_machine c.args.script hs c.args.zap) c.in-Some.ensures) led in
    let o = c.in-Some-outcome_by.outcome in
    let v = over R x o m.moment led.bytes led.events (sym c.in-Some-outcome_by.ensures) e in
    gained R o m.moment led.bytes led.events c.answer.result _ _ _ v led.streams.gains c.answer.ensures.gains

pub returns-in-Some-outcome_by-clause-part : goal.returns-in-Some-outcome_by-clause-part
returns-in-Some-outcome_by-clause-part g c =
    let u = c.args.u.now in
    let hs = highs c.args.sides (λ x. x.now) in
    let R = run_of (setting_of u c.args.bound hs c.args.zap) c.args.script in
    let m = c.run_unit-ended.new.machine in
    let x = c.run_unit-ended.result in
    let led = c.run_unit-ended.ensures.ended in
    let e = run-over u c.args.bound hs c.args.zap c.args.script c.in-Ok.machine m x (c.in-Ok.ensures.value ∙ ap (λ hs. first_machine c.args.script hs c.args.zap) c.in-Some.ensures) led in
    let o = c.in-Some-outcome_by.outcome in
    let v = over R x o m.moment led.bytes led.events (sym c.in-Some-outcome_by.ensures) e in
    gained-part R o m.moment led.bytes led.events c.answer.result _ _ _ v led.streams.gains c.answer.ensures.part

pub returns-in-Some-outcome_by-clause-cause : goal.returns-in-Some-outcome_by-clause-cause
returns-in-Some-outcome_by-clause-cause g c = fault-later c.answer.result _ _ _ c.run_unit-ended.ensures.cause.later c.answer.ensures.cause

pub returns-in-Some-outcome_by-clause-told : goal.returns-in-Some-outcome_by-clause-told
returns-in-Some-outcome_by-clause-told g c =
    let u = c.args.u.now in
    let hs = highs c.args.sides (λ x. x.now) in
    let R = run_of (setting_of u c.args.bound hs c.args.zap) c.args.script in
    let m = c.run_unit-ended.new.machine in
    let x = c.run_unit-ended.result in
    let led = c.run_unit-ended.ensures.ended in
    let e = run-over u c.args.bound hs c.args.zap c.args.script c.in-Ok.machine m x (c.in-Ok.ensures.value ∙ ap (λ hs. first_machine c.args.script hs c.args.zap) c.in-Some.ensures) led in
    let o = c.in-Some-outcome_by.outcome in
    let v = over R x o m.moment led.bytes led.events (sym c.in-Some-outcome_by.ensures) e in
    let a = outlet (g.O.Sink.written c.args.out.now) c.args.hall.now (λ z. (goal.Watch-dyn g z).its_kind z.1) (λ z. (goal.Watch-dyn g z).its_wants z.1) (λ z. (goal.Watch-dyn g z).seen z.1) in
    let q = outlet (g.O.Sink.written c.run_unit-ended.new.out) c.run_unit-ended.new.hall (λ z. (goal.Watch-dyn g z).its_kind z.1) (λ z. (goal.Watch-dyn g z).its_wants z.1) (λ z. (goal.Watch-dyn g z).seen z.1) in
    let z = outlet (g.O.Sink.written c.answer.new.out) c.answer.new.hall (λ z. (goal.Watch-dyn g z).its_kind z.1) (λ z. (goal.Watch-dyn g z).its_wants z.1) (λ z. (goal.Watch-dyn g z).seen z.1) in
    told-end R o m.moment led.bytes led.events u.names c.answer.result a q z v (streams-over x o a q u.names led.bytes led.events (sym c.in-Some-outcome_by.ensures) led.streams) c.answer.ensures.part c.answer.ensures.told

pub returns-in-None-outcome_by-clause-part : goal.returns-in-None-outcome_by-clause-part
returns-in-None-outcome_by-clause-part g c =
    let u = c.args.u.now in
    let hs = highs c.args.sides (λ x. x.now) in
    let R = run_of (setting_of u c.args.bound hs c.args.zap) c.args.script in
    let m = c.run_unit-ended.new.machine in
    let x = c.run_unit-ended.result in
    let led = c.run_unit-ended.ensures.ended in
    let e = run-over u c.args.bound hs c.args.zap c.args.script c.in-Ok.machine m x (c.in-Ok.ensures.value ∙ ap (λ hs. first_machine c.args.script hs c.args.zap) c.in-Some.ensures) led in
    lost-part R x m.moment led.bytes led.events u.names (outlet (g.O.Sink.written c.args.out.now) c.args.hall.now (λ z. (goal.Watch-dyn g z).its_kind z.1) (λ z. (goal.Watch-dyn g z).its_wants z.1) (λ z. (goal.Watch-dyn g z).seen z.1)) (outlet (g.O.Sink.written c.run_unit-ended.new.out) c.run_unit-ended.new.hall (λ z. (goal.Watch-dyn g z).its_kind z.1) (λ z. (goal.Watch-dyn g z).its_wants z.1) (λ z. (goal.Watch-dyn g z).seen z.1)) e led.streams

pub returns-in-None-outcome_by-clause-told : goal.returns-in-None-outcome_by-clause-told
returns-in-None-outcome_by-clause-told g c =
    let u = c.args.u.now in
    let hs = highs c.args.sides (λ x. x.now) in
    let R = run_of (setting_of u c.args.bound hs c.args.zap) c.args.script in
    let m = c.run_unit-ended.new.machine in
    let x = c.run_unit-ended.result in
    let led = c.run_unit-ended.ensures.ended in
    let e = run-over u c.args.bound hs c.args.zap c.args.script c.in-Ok.machine m x (c.in-Ok.ensures.value ∙ ap (λ hs. first_machine c.args.script hs c.args.zap) c.in-Some.ensures) led in
    let a = outlet (g.O.Sink.written c.args.out.now) c.args.hall.now (λ z. (goal.Watch-dyn g z).its_kind z.1) (λ z. (goal.Watch-dyn g z).its_wants z.1) (λ z. (goal.Watch-dyn g z).seen z.1) in
    let q = outlet (g.O.Sink.written c.run_unit-ended.new.out) c.run_unit-ended.new.hall (λ z. (goal.Watch-dyn g z).its_kind z.1) (λ z. (goal.Watch-dyn g z).its_wants z.1) (λ z. (goal.Watch-dyn g z).seen z.1) in
    subst (λ (y : RunError). ToldOr (Err y) a q (end_of R) u.names) (sym c.error_by.ensures) (lost-told R x m.moment led.bytes led.events u.names a q e led.streams)

pub returns-in-Some-outcome_by-clause-late : goal.returns-in-Some-outcome_by-clause-late
returns-in-Some-outcome_by-clause-late g c = late-answer c.args.u.now c.no_empty_tag.ensures c.args.bound c.args.zap c.args.script c.args.sides (λ x. x.now) c.answer.result (returns-in-Some-outcome_by-clause-ran g c)

pub returns-in-Some-outcome_by-clause-sooner : goal.returns-in-Some-outcome_by-clause-sooner
returns-in-Some-outcome_by-clause-sooner g c = sooner-answer c.args.u.now c.no_empty_tag.ensures c.args.bound c.args.zap c.args.script c.args.sides (λ x. x.now) c.answer.result (returns-in-Some-outcome_by-clause-ran g c)

pub returns-in-Some-outcome_by-clause-words : goal.returns-in-Some-outcome_by-clause-words
returns-in-Some-outcome_by-clause-words g c =
    let u = c.args.u.now in
    let hs = highs c.args.sides (λ x. x.now) in
    let R = run_of (setting_of u c.args.bound hs c.args.zap) c.args.script in
    let m = c.run_unit-ended.new.machine in
    let x = c.run_unit-ended.result in
    let led = c.run_unit-ended.ensures.ended in
    let e = run-over u c.args.bound hs c.args.zap c.args.script c.in-Ok.machine m x (c.in-Ok.ensures.value ∙ ap (λ hs. first_machine c.args.script hs c.args.zap) c.in-Some.ensures) led in
    let o = c.in-Some-outcome_by.outcome in
    let v = over R x o m.moment led.bytes led.events (sym c.in-Some-outcome_by.ensures) e in
    words-end R o m.moment led.bytes led.events c.answer.result v led.streams.words c.answer.ensures.words

pub returns-in-Some-outcome_by-clause-streams : goal.returns-in-Some-outcome_by-clause-streams
returns-in-Some-outcome_by-clause-streams g c =
    let u = c.args.u.now in
    let hs = highs c.args.sides (λ x. x.now) in
    let R = run_of (setting_of u c.args.bound hs c.args.zap) c.args.script in
    let m = c.run_unit-ended.new.machine in
    let x = c.run_unit-ended.result in
    let led = c.run_unit-ended.ensures.ended in
    let begun = c.in-Ok.ensures.value ∙ ap (λ hs. first_machine c.args.script hs c.args.zap) c.in-Some.ensures in
    let e = run-over u c.args.bound hs c.args.zap c.args.script c.in-Ok.machine m x begun led in
    let o = c.in-Some-outcome_by.outcome in
    let is = sym c.in-Some-outcome_by.ensures in
    let v = over R x o m.moment led.bytes led.events is e in
    let stage = stage_of u hs c.args.zap c.args.script in
    let s = stands-over x o stage m.moment.taken led.bytes led.events is (run-stands u c.args.bound hs c.args.zap c.args.script c.in-Ok.machine m x begun led) in
    let a = outlet (g.O.Sink.written c.args.out.now) c.args.hall.now (λ z. (goal.Watch-dyn g z).its_kind z.1) (λ z. (goal.Watch-dyn g z).its_wants z.1) (λ z. (goal.Watch-dyn g z).seen z.1) in
    let q = outlet (g.O.Sink.written c.run_unit-ended.new.out) c.run_unit-ended.new.hall (λ z. (goal.Watch-dyn g z).its_kind z.1) (λ z. (goal.Watch-dyn g z).its_wants z.1) (λ z. (goal.Watch-dyn g z).seen z.1) in
    let z = outlet (g.O.Sink.written c.answer.new.out) c.answer.new.hall (λ z. (goal.Watch-dyn g z).its_kind z.1) (λ z. (goal.Watch-dyn g z).its_wants z.1) (λ z. (goal.Watch-dyn g z).seen z.1) in
    streamed-end R o m.moment led.bytes led.events u.names c.answer.result stage a q z v s (streams-over x o a q u.names led.bytes led.events is led.streams) c.answer.ensures.part c.answer.ensures.told

pub returns-in-None-outcome_by-clause-streams : goal.returns-in-None-outcome_by-clause-streams
returns-in-None-outcome_by-clause-streams g c =
    let u = c.args.u.now in
    let hs = highs c.args.sides (λ x. x.now) in
    let R = run_of (setting_of u c.args.bound hs c.args.zap) c.args.script in
    let m = c.run_unit-ended.new.machine in
    let x = c.run_unit-ended.result in
    let led = c.run_unit-ended.ensures.ended in
    let begun = c.in-Ok.ensures.value ∙ ap (λ hs. first_machine c.args.script hs c.args.zap) c.in-Some.ensures in
    let stage = stage_of u hs c.args.zap c.args.script in
    let a = outlet (g.O.Sink.written c.args.out.now) c.args.hall.now (λ z. (goal.Watch-dyn g z).its_kind z.1) (λ z. (goal.Watch-dyn g z).its_wants z.1) (λ z. (goal.Watch-dyn g z).seen z.1) in
    let q = outlet (g.O.Sink.written c.run_unit-ended.new.out) c.run_unit-ended.new.hall (λ z. (goal.Watch-dyn g z).its_kind z.1) (λ z. (goal.Watch-dyn g z).its_wants z.1) (λ z. (goal.Watch-dyn g z).seen z.1) in
    subst (λ (y : RunError). StreamedOr (Err y) a q stage (end_of R).taken u.names) (sym c.error_by.ensures)
    (streamed-lost R x m.moment.taken led.bytes led.events u.names stage a q (run-stands u c.args.bound hs c.args.zap c.args.script c.in-Ok.machine m x begun led) led.streams)
