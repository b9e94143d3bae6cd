use Rattle.std.proofs.Common.{ap, arith, refl}
use Rattle.pv_eval.specs.Moments.{state_of}
use Rattle.pv_exec.specs.declared.task.Flow.{Flow}
use Rattle.pv_exec.specs.declared.task.Flow.TheVariants as flow
use Rattle.pv_exec.specs.declared.task.Task.TheVariants as task
use Rattle.pv_exec.specs.Tasks.{after_flow}
use Rattle.pv_exec.specs.Works.{flow_of}
use Rattle.pv_exec.proofs.Leaving.{leaves-at}
use Rattle.pv_exec.proofs.Enters.{at-world}
use Rattle.pv_exec.proofs.Onward.{declared-goes}
use Rattle.std.proofs.Common.{sym, subst}
use Rattle.pv_exec.specs.Leading.{LeadsOr}
use Rattle.pv_exec.proofs.lists.after_declarations.Goals as goal

pub returns-in-Falls-clause-led : goal.returns-in-Falls-clause-led
returns-in-Falls-clause-led c = λ b out es hs hl k le lt.
    let u = c.args.unit.now in
    let old = c.args.machine.now in
    let s = state_of old.moment out es in
    at-world b u _ old.started c.begin_round.new.machine.started c.begin_round.result old.moment c.begin_round.new.machine.moment out es c.begin_round.ensures.moment
    (subst (λ q. LeadsOr b u q old.started c.begin_round.result c.begin_round.new.machine.started s) (sym (declared-goes b u k c.args.n (flow_of c.args.flow) old.started s (ap flow_of c.in-Falls.is)))
    (c.begin_round.ensures.led b k s (omega (arith, lt))))

pub returns-in-Breaks-clause-led : goal.returns-in-Breaks-clause-led
unfolding after_flow
returns-in-Breaks-clause-led c = λ b out es hs hl k le lt.
    let u = c.args.unit.now in
    let old = c.args.machine.now in
    let s = state_of old.moment out es in
    leaves-at b u k (after_flow b u k old.started (task.Declared c.args.n) (flow_of c.args.flow) s) flow.Breaks old.started old.started s lt (ap (λ (fl : Flow). after_flow b u k old.started (task.Declared c.args.n) (flow_of fl) s) c.in-Breaks.is) refl

pub returns-in-Continues-clause-led : goal.returns-in-Continues-clause-led
unfolding after_flow
returns-in-Continues-clause-led c = λ b out es hs hl k le lt.
    let u = c.args.unit.now in
    let old = c.args.machine.now in
    let s = state_of old.moment out es in
    leaves-at b u k (after_flow b u k old.started (task.Declared c.args.n) (flow_of c.args.flow) s) flow.Continues old.started old.started s lt (ap (λ (fl : Flow). after_flow b u k old.started (task.Declared c.args.n) (flow_of fl) s) c.in-Continues.is) refl

pub returns-in-Returns-clause-led : goal.returns-in-Returns-clause-led
unfolding after_flow
returns-in-Returns-clause-led c = λ b out es hs hl k le lt.
    let u = c.args.unit.now in
    let old = c.args.machine.now in
    let s = state_of old.moment out es in
    leaves-at b u k (after_flow b u k old.started (task.Declared c.args.n) (flow_of c.args.flow) s) (flow.Returns c.in-Returns.v) old.started old.started s lt (ap (λ (fl : Flow). after_flow b u k old.started (task.Declared c.args.n) (flow_of fl) s) c.in-Returns.is) refl
