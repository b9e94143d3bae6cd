use Rattle.std.proofs.Common.{List, length, ◌∙◌, ◌<◌, ap, sym, subst, arith}
use Rattle.pv_typed.specs.TypedUnits.{WholeUnit, function_at}
use Rattle.pv_world.specs.Coming.{worth_of}
use Rattle.pv_eval.specs.Moments.{Moment, Stays, state_of}
use Rattle.pv_eval.specs.Machines.{Started, after_first}
use Rattle.pv_eval.specs.MachineSteps.{IsAnswered, Fit}
use Rattle.pv_exec.specs.OfRuns.{end_all}
use Rattle.pv_exec.specs.Works.{flow_of}
use Rattle.pv_exec.proofs.Pieces.{setting-stays, before-stays, stays_both, made-ok}
use Rattle.pv_exec.proofs.Calling.{call-ends, answered-ended, answered-rest}
use Rattle.pv_exec.proofs.Leaving.{at-moment, open-there}
use Rattle.pv_exec.proofs.calls.end_call.Goals as goal

pub answer-requires : goal.answer-requires
answer-requires c =
    let e = sym (c.end_body.ensures.started ∙ c.end_each-ended.ensures.started) in
    open-there c.args.unit.now c.end_body.new.self.started (subst (λ (x : List Started). Fit c.args.unit.now x) e c.requires.fit) (subst (λ (x : List Started). 0 < length x) e c.requires.waits)

pub returns-clause-led : goal.returns-clause-led
returns-clause-led c = λ b out es hs hl k le lt.
    let u = c.args.unit.now in
    let f = c.args.f in
    let old = c.args.machine.now in
    let m1 = c.end_each-ended.new.machine in
    let m2 = c.end_body.new.self in
    let m3 = c.answer.new.self in
    let st1 = c.end_each-ended.ensures.stays in
    let st2 = c.end_body.ensures.stays in
    let s = state_of old.moment out es in
    let s1 = state_of m1.moment out es in
    let s2 = state_of m2.moment out es in
    let hs1 = setting-stays b u old.moment m1.moment st1 hs in
    let hl1 = before-stays old.moment m1.moment out st1 hl in
    let params = ap (λ (q : WholeUnit). end_all b (function_at q f).params s) hs.unit ∙ ap (λ xs. end_all b xs s) (sym c.params_of.ensures.params) in
    let h1 = params ∙ made-ok c.end_each-ended.result (end_all b c.params_of.result.now s) s1 (sym c.is_err.ensures.value ∙ c.if-is_err.false) (c.end_each-ended.ensures.made b out es hs hl) in
    let h2 = c.end_body.ensures.made u b out es hs1 hl1 c.args.line in
    let v = c.value_by.ensures b hs.unit in
    let a = subst (λ (x : List Started). IsAnswered (worth_of c.value_by.result) m3.started x) (c.end_body.ensures.started ∙ c.end_each-ended.ensures.started) c.answer.ensures.started in
    at-moment b u _ _ m3.started _ m2.moment m3.moment out es c.answer.ensures.moment
    (call-ends b u k f c.args.line (flow_of c.args.flow) (worth_of c.value_by.result) old.started m3.started s s1 s2 (omega (arith, lt, st1.taken, st2.taken)) h1 h2 v a)

pub returns-clause-stays : goal.returns-clause-stays
returns-clause-stays c =
    let m1 = c.end_each-ended.new.machine.moment in
    let m2 = c.end_body.new.self.moment in
    subst (λ (x : Moment). Stays c.args.machine.now.moment x) (sym c.answer.ensures.moment) (stays_both c.args.machine.now.moment m1 m2 c.end_each-ended.ensures.stays c.end_body.ensures.stays)

pub returns-clause-fit : goal.returns-clause-fit
returns-clause-fit c = c.answer.ensures.fit c.args.unit.now (subst (λ (x : List Started). Fit c.args.unit.now x) (sym (c.end_body.ensures.started ∙ c.end_each-ended.ensures.started)) c.requires.fit)

pub returns-clause-ended : goal.returns-clause-ended
returns-clause-ended c = answered-ended (worth_of c.value_by.result) c.answer.new.self.started c.end_body.new.self.started c.answer.ensures.started

pub returns-clause-others : goal.returns-clause-others
returns-clause-others c =
    answered-rest (worth_of c.value_by.result) c.answer.new.self.started c.end_body.new.self.started c.answer.ensures.started ∙ ap after_first (c.end_body.ensures.started ∙ c.end_each-ended.ensures.started)
