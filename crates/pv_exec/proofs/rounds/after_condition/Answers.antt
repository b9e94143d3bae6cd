use Rattle.std.proofs.Common.{◌∙◌, ap, sym, subst, arith, Ok, List}
use Rattle.std.specs.Prelude.{Bool}
use Rattle.pv_eval.specs.Machines.{ended_value, after_first, Started}
use Rattle.pv_eval.specs.Moments.{Tested, state_of}
use Rattle.pv_eval.specs.Operations.{Tests, act}
use Rattle.pv_exec.specs.OfRuns.{below}
use Rattle.pv_typed.specs.NodeTrees.{statement_at}
use Rattle.pv_exec.specs.declared.task.Task.TheVariants as task
use Rattle.pv_exec.specs.declared.task.Doing.TheVariants as doing
use Rattle.pv_exec.specs.declared.task.Way.TheVariants as way
use Rattle.pv_exec.specs.declared.task.Flow.TheVariants as flow
use Rattle.pv_exec.specs.Parts.{Loop, line_of_condition, loop_from_test, loop_of}
use Rattle.pv_exec.specs.Tasks.{left_flow}
use Rattle.pv_exec.specs.Leading.{Leads}
use Rattle.pv_exec.proofs.Loops.{tested-true, tested-false, tested-stops}
use Rattle.pv_exec.proofs.rounds.after_condition.Goals as goal

pub returns-then-goes_on-clause-led : goal.returns-then-goes_on-clause-led
returns-then-goes_on-clause-led c = λ b out es hs hl k lt.
    let u = c.args.unit.now in
    let old = c.args.machine.now in
    let new = c.decide.new.self in
    let line = c.line_of_optional-line.ensures ∙ ap line_of_condition (sym (ap (λ (l : Loop). l.condition) c.loop_parts-parts.ensures.value)) in
    let s = state_of old.moment out es in
    let s' = state_of new.moment out es in
    let v = ended_value old.started in
    let h = subst (λ (q : Bool). Tested (act b c.line_of_optional-line.result (Tests v) s) (Ok q) s') c.if-goes_on.true (c.in-Ok.ensures.tested b out es hs hl) in
    subst (λ (x : List Started). Leads b u (left_flow (loop_from_test b (below b k) (loop_of (statement_at u c.args.n)) v s)) (after_first old.started) (way.With (task.Rounded c.args.n) (doing.Enter c.loop_parts-parts.result.body)) x s') (sym c.in-Ok.ensures.started)
    (tested-true b u k c.line_of_optional-line.result c.args.n c.loop_parts-parts.result.body (after_first old.started) v s s' (omega (arith, lt, c.in-Ok.ensures.stays.taken)) line (ap (λ (l : Loop). l.body) c.loop_parts-parts.ensures.value) h)

pub returns-else-goes_on-clause-led : goal.returns-else-goes_on-clause-led
returns-else-goes_on-clause-led c = λ b out es hs hl k lt.
    let u = c.args.unit.now in
    let old = c.args.machine.now in
    let new = c.decide.new.self in
    let line = c.line_of_optional-line.ensures ∙ ap line_of_condition (sym (ap (λ (l : Loop). l.condition) c.loop_parts-parts.ensures.value)) in
    let s = state_of old.moment out es in
    let s' = state_of new.moment out es in
    let v = ended_value old.started in
    let h = subst (λ (q : Bool). Tested (act b c.line_of_optional-line.result (Tests v) s) (Ok q) s') c.if-goes_on.false (c.in-Ok.ensures.tested b out es hs hl) in
    subst (λ (x : List Started). Leads b u (left_flow (loop_from_test b (below b k) (loop_of (statement_at u c.args.n)) v s)) (after_first old.started) (way.Do (doing.Left flow.Falls)) x s') (sym c.in-Ok.ensures.started)
    (tested-false b u k c.line_of_optional-line.result c.args.n (after_first old.started) v s s' (omega (arith, lt, c.in-Ok.ensures.stays.taken)) line h)

pub returns-in-Err-clause-led : goal.returns-in-Err-clause-led
returns-in-Err-clause-led c = λ b out es hs hl k lt.
    let u = c.args.unit.now in
    let old = c.args.machine.now in
    let new = c.decide.new.self in
    let line = c.line_of_optional-line.ensures ∙ ap line_of_condition (sym (ap (λ (l : Loop). l.condition) c.loop_parts-parts.ensures.value)) in
    let s = state_of old.moment out es in
    let s' = state_of new.moment out es in
    let v = ended_value old.started in
    tested-stops b u k c.line_of_optional-line.result c.args.n (after_first old.started) new.started v c.in-Err.e s s' line (c.in-Err.ensures.tested b out es hs hl)
