use Rattle.std.proofs.Common.{ap, arith, refl}
use Rattle.pv_eval.specs.Moments.{state_of}
use Rattle.pv_exec.specs.declared.task.Flow.{Flow}
use Rattle.pv_exec.specs.declared.task.Flow.TheVariants as flow
use Rattle.pv_exec.specs.OfRuns.{below}
use Rattle.std.proofs.Common.{Some}
use Rattle.pv_typed.specs.Tables.{nodes}
use Rattle.pv_exec.specs.Read.{do_in}
use Rattle.pv_exec.specs.Parts.{rounded_do}
use Rattle.pv_exec.specs.Works.{flow_of}
use Rattle.pv_exec.proofs.Enters.{at-world}
use Rattle.pv_exec.proofs.Leaving.{leaves-at}
use Rattle.pv_exec.proofs.Dos.{do-falls, do-continues, do-leaves, no-do}
use Rattle.pv_exec.proofs.do_loops.after_do_body.Goals as goal

pub returns-in-None-clause-led : goal.returns-in-None-clause-led
returns-in-None-clause-led c = λ b out es hs hl k le lt.
    let u = c.args.unit.now in
    let old = c.args.machine.now in
    leaves-at b u k _ c.args.flow old.started old.started (state_of old.moment out es) lt (no-do b u k c.args.n old.started (flow_of c.args.flow) (state_of old.moment out es) c.in-None.ensures.value) refl

pub returns-in-Falls-clause-led : goal.returns-in-Falls-clause-led
returns-in-Falls-clause-led c = λ b out es hs hl k le lt.
    let u = c.args.unit.now in
    let old = c.args.machine.now in
    let s = state_of old.moment out es in
    at-world b u _ old.started c.evaluate.new.machine.started c.evaluate.result old.moment c.evaluate.new.machine.moment out es c.evaluate.ensures.moment
    (c.evaluate.ensures.led b u k s _ (omega (arith, lt)) (do-falls b u k c.args.n c.in-Some.parts old.started (flow_of c.args.flow) s c.in-Some.ensures.value (ap flow_of c.in-Falls.is)))

pub returns-in-Continues-clause-led : goal.returns-in-Continues-clause-led
returns-in-Continues-clause-led c = λ b out es hs hl k le lt.
    let u = c.args.unit.now in
    let old = c.args.machine.now in
    let s = state_of old.moment out es in
    at-world b u _ old.started c.evaluate-in-Continues.new.machine.started c.evaluate-in-Continues.result old.moment c.evaluate-in-Continues.new.machine.moment out es c.evaluate-in-Continues.ensures.moment
    (c.evaluate-in-Continues.ensures.led b u k s _ (omega (arith, lt)) (do-continues b u k c.args.n c.in-Some.parts old.started (flow_of c.args.flow) s c.in-Some.ensures.value (ap flow_of c.in-Continues.is)))

pub returns-in-Breaks-clause-led : goal.returns-in-Breaks-clause-led
returns-in-Breaks-clause-led c = λ b out es hs hl k le lt.
    let u = c.args.unit.now in
    let old = c.args.machine.now in
    let s = state_of old.moment out es in
    leaves-at b u k _ flow.Falls old.started old.started s lt (do-leaves b u k c.args.n c.in-Some.parts old.started (flow_of c.args.flow) (flow_of flow.Falls) s c.in-Some.ensures.value (ap (λ (fl : Flow). rounded_do b (below b k) (Some (do_in (nodes u) c.in-Some.parts)) (flow_of fl) s) c.in-Breaks.is)) refl

pub returns-in-Returns-clause-led : goal.returns-in-Returns-clause-led
returns-in-Returns-clause-led c = λ b out es hs hl k le lt.
    let u = c.args.unit.now in
    let old = c.args.machine.now in
    let s = state_of old.moment out es in
    leaves-at b u k _ (flow.Returns c.in-Returns.v) old.started old.started s lt (do-leaves b u k c.args.n c.in-Some.parts old.started (flow_of c.args.flow) (flow_of (flow.Returns c.in-Returns.v)) s c.in-Some.ensures.value (ap (λ (fl : Flow). rounded_do b (below b k) (Some (do_in (nodes u) c.in-Some.parts)) (flow_of fl) s) c.in-Returns.is)) refl
