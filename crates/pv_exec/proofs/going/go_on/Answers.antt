use Rattle.std.proofs.Common.{length, ◌∙◌, sym, subst, arith, Ok}
use Rattle.pv_eval.specs.Machines.{left_of}
use Rattle.pv_eval.specs.MachineSteps.{Stepped, WentTo}
use Rattle.pv_eval.specs.Moments.{IsSetting, state_of}
use Rattle.pv_exec.specs.OfRuns.{below}
use Rattle.pv_eval.specs.declared.frames.Step.{Step}
use Rattle.pv_exec.specs.declared.task.Doing.TheVariants as doing
use Rattle.pv_exec.proofs.Works.{due-two}
use Rattle.pv_exec.proofs.Stepping.{went-on, went-done, went-call, went-out, may-turn}
use Rattle.pv_exec.proofs.Pieces.{keeps-stays}
use Rattle.pv_exec.proofs.going.go_on.Goals as goal

pub returns-in-More-clause-led : goal.returns-in-More-clause-led
returns-in-More-clause-led c = λ b out es hs hl k le tu lt.
    let u = c.args.unit.now in
    let old = c.args.machine.now in
    let new = c.step.new.self in
    let s = state_of old.moment out es in
    let s' = state_of new.moment out es in
    let es0 = old.started in
    let es1 = new.started in
    let x = subst (λ (q : Step). Stepped b (below b k).call u (left_of b (below b k).call u es0 s) (Ok q) es1 s') c.in-More.is (c.in-Ok.ensures.rest b out es hs hl (below b k).call (may-turn b es0 _ tu)) in
    let d = subst (λ (q : Step). WentTo u q es1) c.in-More.is c.in-Ok.ensures.which in
    went-on b u k es0 es1 s s' (omega (arith, lt, c.in-Ok.ensures.taken)) d c.in-Ok.ensures.others x

pub returns-in-Done-clause-led : goal.returns-in-Done-clause-led
returns-in-Done-clause-led c = λ b out es hs hl k le tu lt.
    let u = c.args.unit.now in
    let old = c.args.machine.now in
    let new = c.step.new.self in
    let s = state_of old.moment out es in
    let s' = state_of new.moment out es in
    let es0 = old.started in
    let es1 = new.started in
    let x = subst (λ (q : Step). Stepped b (below b k).call u (left_of b (below b k).call u es0 s) (Ok q) es1 s') c.in-Done.is (c.in-Ok.ensures.rest b out es hs hl (below b k).call (may-turn b es0 _ tu)) in
    went-done b u k es0 es1 s s' (omega (arith, lt, c.in-Ok.ensures.taken)) c.in-Ok.ensures.others x

pub returns-in-Err-clause-led : goal.returns-in-Err-clause-led
returns-in-Err-clause-led c = λ b out es hs hl k le tu lt.
    let u = c.args.unit.now in
    let old = c.args.machine.now in
    let new = c.step.new.self in
    let s = state_of old.moment out es in
    let s' = state_of new.moment out es in
    let es0 = old.started in
    let es1 = new.started in
    went-out b u k es0 es1 c.in-Err.e s s' (c.in-Err.ensures.rest b out es hs hl (below b k).call (may-turn b es0 _ tu))

pub returns-in-Call-clause-led : goal.returns-in-Call-clause-led
returns-in-Call-clause-led c = λ b out es hs hl k le tu lt.
    let u = c.args.unit.now in
    let old = c.args.machine.now in
    let new = c.step.new.self in
    let last = c.call.new.machine in
    let s = state_of old.moment out es in
    let s' = state_of new.moment out es in
    let es0 = old.started in
    let es1 = new.started in
    let f = c.in-Call.f in
    let x = subst (λ (q : Step). Stepped b (below b k).call u (left_of b (below b k).call u es0 s) (Ok q) es1 s') c.in-Call.is (c.in-Ok.ensures.rest b out es hs hl (below b k).call (may-turn b es0 _ tu)) in
    let st = c.in-Ok.ensures.stays in
    let hs' : IsSetting b u new.moment = record { unit = hs.unit; types = hs.types; sides = hs.sides ∙ sym st.sides } in
    let most = due-two b es0 doing.Evaluate s le tu in
    went-call b u k f es0 es1 last.started c.call.result s s' (state_of last.moment out es) c.in-Ok.ensures.others x
    (c.call.ensures.led b out es hs' (st.total (length out) hl) k (omega (arith, most, c.in-Ok.ensures.taken)) (omega (arith, lt, c.in-Ok.ensures.taken)))

pub returns-in-Call-clause-setting : goal.returns-in-Call-clause-setting
returns-in-Call-clause-setting c = keeps-stays c.args.machine.now.moment c.step.new.self.moment c.call.new.machine.moment c.in-Ok.ensures.stays c.call.ensures.stays
