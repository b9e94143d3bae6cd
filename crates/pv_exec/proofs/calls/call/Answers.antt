use Rattle.std.proofs.Common.{List, Ok, Err, ◌∙◌, ◌<◌, length, ap, sym, subst, arith}
use Rattle.std.specs.Prelude.{map, ℕ}
use Rattle.pv_world.specs.Coming.{worth_of}
use Rattle.pv_world.specs.declared.got.Got.{Got}
use Rattle.pv_eval.specs.Moments.{Moment, IsSetting, Follows, Stays, state_of}
use Rattle.pv_eval.specs.Machines.{Machine, Started, after_first}
use Rattle.pv_eval.specs.MachineSteps.{Fit, IsTaken}
use Rattle.pv_exec.specs.declared.task.Task.TheVariants as task
use Rattle.pv_exec.specs.declared.task.Way.TheVariants as way
use Rattle.pv_exec.specs.Leading.{Leads}
use Rattle.pv_exec.specs.Called.{calls}
use Rattle.pv_exec.proofs.Calling.{call-leads, call-stops, call-made, taken-rest, taken-some}
use Rattle.pv_exec.proofs.calls.call.Goals as goal

pub returns-in-Ok-begin_function-clause-led : goal.returns-in-Ok-begin_function-clause-led
returns-in-Ok-begin_function-clause-led c = λ b out es hs hl k le lt.
    let u = c.args.unit.now in
    let f = c.args.f in
    let old = c.args.machine.now in
    let mid = c.arguments.new.self in
    let new = c.begin_function.new.machine in
    let e = c.in-Ok.ensures.moment in
    let hs' = subst (λ (x : Moment). IsSetting b u x) (sym e) hs in
    let hl' = subst (λ (x : Moment). Follows x (length out)) (sym e) hl in
    let args = ap (λ (xs : List Got). map worth_of xs) c.as_slice.ensures.value ∙ c.in-Ok.ensures.arguments in
    let h = call-made b u f c.line-line.result (map worth_of c.as_slice.result.now) old.started old.moment mid.moment out es (Ok tt) (state_of new.moment out es) hs.unit c.line-line.ensures args e (c.in-Ok-begin_function.ensures.made b out es hs' hl') in
    let taken = subst (λ (x : List Started). IsTaken x old.started) (sym c.in-Ok-begin_function.ensures.started) c.in-Ok.ensures.started in
    let count = c.in-Ok-begin_function.ensures.stays.taken ∙ ap (λ (x : Moment). x.taken) e in
    subst (λ (q : Machine). Leads b u (calls b u k f old.started (state_of old.moment out es)) (after_first old.started) (way.With (task.InCall f c.line-line.result) c.body_of.result) q.started (state_of q.moment out es)) (sym c.give_back.ensures)
    (subst (λ (n : ℕ). Leads b u (calls b u k f old.started (state_of old.moment out es)) (after_first old.started) (way.With (task.InCall f n) c.body_of.result) new.started (state_of new.moment out es)) (sym c.line-line.ensures)
    (call-leads b u k f c.body_of.result old.started new.started (state_of old.moment out es) (state_of new.moment out es) (omega (arith, le, count)) (omega (arith, lt, count)) hs.unit c.body_of.ensures.does taken h))

pub returns-in-Err-begin_function-clause-led : goal.returns-in-Err-begin_function-clause-led
returns-in-Err-begin_function-clause-led c = λ b out es hs hl k le lt.
    let u = c.args.unit.now in
    let f = c.args.f in
    let old = c.args.machine.now in
    let mid = c.arguments.new.self in
    let new = c.begin_function.new.machine in
    let e = c.in-Ok.ensures.moment in
    let hs' = subst (λ (x : Moment). IsSetting b u x) (sym e) hs in
    let hl' = subst (λ (x : Moment). Follows x (length out)) (sym e) hl in
    let args = ap (λ (xs : List Got). map worth_of xs) c.as_slice.ensures.value ∙ c.in-Ok.ensures.arguments in
    call-stops b u k f c.in-Err-begin_function.e old.started (after_first old.started) new.started (state_of old.moment out es) (state_of new.moment out es) le lt
    (call-made b u f c.line-line.result (map worth_of c.as_slice.result.now) old.started old.moment mid.moment out es (Err c.in-Err-begin_function.e) (state_of new.moment out es) hs.unit c.line-line.ensures args e (c.in-Err-begin_function.ensures.made b out es hs' hl'))

pub returns-in-Ok-begin_function-clause-fit : goal.returns-in-Ok-begin_function-clause-fit
returns-in-Ok-begin_function-clause-fit c =
    subst (λ (x : List Started). Fit c.args.unit.now x) (sym (ap (λ (q : Machine). q.started) c.give_back.ensures ∙ c.in-Ok-begin_function.ensures.started)) (c.in-Ok.ensures.fit c.args.unit.now c.requires.fit)

pub returns-in-Ok-begin_function-clause-ways : goal.returns-in-Ok-begin_function-clause-ways
returns-in-Ok-begin_function-clause-ways c =
    let old = c.args.machine.now.started in
    let new = c.give_back.new.self.started in
    let same = ap (λ (q : Machine). q.started) c.give_back.ensures ∙ c.in-Ok-begin_function.ensures.started in
    let taken = subst (λ (x : List Started). IsTaken x old) (sym same) c.in-Ok.ensures.started in
    let here = c.body_of.ensures.does.here new in
    (c.requires.there, c.body_of.ensures.does.fits new, ap after_first here ∙ taken-rest new old taken, subst (λ (x : List Started). 0 < length x) (sym here) (taken-some new old taken))

pub returns-in-Ok-begin_function-clause-stays : goal.returns-in-Ok-begin_function-clause-stays
returns-in-Ok-begin_function-clause-stays c =
    subst (λ (q : Machine). Stays c.args.machine.now.moment q.moment) (sym c.give_back.ensures) (subst (λ (m : Moment). Stays m c.begin_function.new.machine.moment) c.in-Ok.ensures.moment c.in-Ok-begin_function.ensures.stays)
