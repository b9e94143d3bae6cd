use Rattle.std.proofs.Common.{ap, refl, arith}
use Rattle.pv_eval.specs.Moments.{state_of}
use Rattle.pv_exec.specs.declared.task.Flow.{Flow}
use Rattle.pv_exec.specs.declared.task.Flow.TheVariants as flow
use Rattle.pv_exec.specs.declared.task.Task.TheVariants as task
use Rattle.pv_exec.specs.Tasks.{after_flow}
use Rattle.pv_exec.specs.Works.{flow_of}
use Rattle.pv_exec.proofs.Leaving.{leaves-at}
use Rattle.pv_exec.proofs.Onward.{list-next, ends-quick-or}
use Rattle.pv_exec.proofs.lists.after_statement.Goals as goal

pub returns-in-Falls-clause-led : goal.returns-in-Falls-clause-led
returns-in-Falls-clause-led c = λ b out es hs hl k le lt.
    let u = c.args.unit.now in
    let old = c.args.machine.now in
    let new = c.next_statement.new.machine in
    list-next b u k c.args.l c.args.i (flow_of c.args.flow) c.next_statement.result old.started new.started (state_of old.moment out es) (state_of new.moment out es) (ap flow_of c.in-Falls.is)
    (c.next_statement.ensures.led b out es hs hl k le (λ e. absurd (omega (arith, e))) (omega (arith, lt)))

pub returns-in-Falls-clause-quick : goal.returns-in-Falls-clause-quick
returns-in-Falls-clause-quick c = ends-quick-or c.next_statement.new.machine.started c.next_statement.result c.next_statement.ensures.quick

pub returns-in-Breaks-clause-led : goal.returns-in-Breaks-clause-led
unfolding after_flow
returns-in-Breaks-clause-led c = λ b out es hs hl k le lt.
    let u = c.args.unit.now in
    let old = c.args.machine.now in
    let s = state_of old.moment out es in
    leaves-at b u k (after_flow b u k old.started (task.InList c.args.l c.args.i) (flow_of c.args.flow) s) flow.Breaks old.started old.started s lt (ap (λ (fl : Flow). after_flow b u k old.started (task.InList c.args.l c.args.i) (flow_of fl) s) c.in-Breaks.is) refl

pub returns-in-Continues-clause-led : goal.returns-in-Continues-clause-led
unfolding after_flow
returns-in-Continues-clause-led c = λ b out es hs hl k le lt.
    let u = c.args.unit.now in
    let old = c.args.machine.now in
    let s = state_of old.moment out es in
    leaves-at b u k (after_flow b u k old.started (task.InList c.args.l c.args.i) (flow_of c.args.flow) s) flow.Continues old.started old.started s lt (ap (λ (fl : Flow). after_flow b u k old.started (task.InList c.args.l c.args.i) (flow_of fl) s) c.in-Continues.is) refl

pub returns-in-Returns-clause-led : goal.returns-in-Returns-clause-led
unfolding after_flow
returns-in-Returns-clause-led c = λ b out es hs hl k le lt.
    let u = c.args.unit.now in
    let old = c.args.machine.now in
    let s = state_of old.moment out es in
    leaves-at b u k (after_flow b u k old.started (task.InList c.args.l c.args.i) (flow_of c.args.flow) s) (flow.Returns c.in-Returns.v) old.started old.started s lt (ap (λ (fl : Flow). after_flow b u k old.started (task.InList c.args.l c.args.i) (flow_of fl) s) c.in-Returns.is) refl
