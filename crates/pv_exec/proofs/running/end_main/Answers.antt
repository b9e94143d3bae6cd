use Rattle.std.proofs.Common.{◌∙◌, ap, sym}
use Rattle.pv_typed.specs.TypedUnits.{WholeUnit, function_at}
use Rattle.pv_world.specs.Worlds.{Worth}
use Rattle.pv_eval.specs.States.{Res, Gives, then_do}
use Rattle.pv_eval.specs.Operations.{EndsBody, act}
use Rattle.pv_eval.specs.Moments.{state_of}
use Rattle.pv_exec.specs.OfRuns.{end_all}
use Rattle.pv_exec.specs.Calls.{value_by}
use Rattle.pv_exec.specs.Works.{flow_of}
use Rattle.pv_exec.proofs.Pieces.{setting-stays, before-stays, made-ok}
use Rattle.pv_exec.proofs.Mains.{end-lost}
use Rattle.pv_exec.proofs.running.end_main.Goals as goal

pub returns-clause-ended : goal.returns-clause-ended
returns-clause-ended c = λ b out es hs hl line.
    let u = c.args.unit.now in
    let f = c.args.f in
    let old = c.args.machine.now in
    let m1 = c.end_each-ended.new.machine in
    let m2 = c.end_body.new.self in
    let st1 = c.end_each-ended.ensures.stays in
    let s = state_of old.moment out es in
    let s1 = state_of m1.moment out es in
    let s2 = state_of m2.moment out es in
    let hs1 = setting-stays b u old.moment m1.moment st1 hs in
    let hl1 = before-stays old.moment m1.moment out st1 hl in
    let params = ap (λ (q : WholeUnit). end_all b (function_at q f).params s) hs.unit ∙ ap (λ xs. end_all b xs s) (sym c.params_of.ensures.params) in
    let h1 = params ∙ made-ok c.end_each-ended.result (end_all b c.params_of.result.now s) s1 (sym c.is_err.ensures.value ∙ c.if-is_err.false) (c.end_each-ended.ensures.made b out es hs hl) in
    let h2 = c.end_body.ensures.made u b out es hs1 hl1 line in
    let v = value_by b (function_at b.unit f) (flow_of c.args.flow) in
    ap (λ (r : Res Worth). then_do r (λ x s. then_do (act b line EndsBody s) (λ x s. Gives v s))) h1
    ∙ ap (λ (r : Res Worth). then_do r (λ x s. Gives v s)) h2
    ∙ ap (λ (w : Worth). Gives w s2) (sym (c.value_by.ensures b hs.unit))

pub returns-then-is_err-clause-ended : goal.returns-then-is_err-clause-ended
returns-then-is_err-clause-ended c = λ b out es hs hl line. end-lost b c.args.f line c.args.flow c.args.machine.now.moment out es

pub returns-clause-taken : goal.returns-clause-taken
returns-clause-taken c = c.end_body.ensures.stays.taken ∙ c.end_each-ended.ensures.stays.taken
