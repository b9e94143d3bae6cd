use Rattle.std.proofs.Common.{◌∙◌, ◌+◌, ◌≡◌, ◌∷◌, ap, sym, subst, arith, refl}
use Rattle.std.specs.Prelude.{drop}
use Rattle.pv_typed.specs.TypedUnits.{WholeUnit, object_at}
use Rattle.pv_typed.specs.Tables.{nodes, store_in, value_in}
use Rattle.pv_typed.specs.NodeTrees.{expression_at}
use Rattle.pv_world.specs.Worlds.{Nothing}
use Rattle.pv_eval.specs.Moments.{Moment, state_of}
use Rattle.pv_eval.specs.States.{State, Gives, then_do}
use Rattle.pv_eval.specs.TypeForms.{size_of}
use Rattle.pv_eval.specs.Operations.{PutsText, act}
use Rattle.pv_exec.specs.declared.task.Doing.TheVariants as doing
use Rattle.pv_exec.specs.declared.task.Task.TheVariants as task
use Rattle.pv_exec.specs.OfRuns.{full_expression, below}
use Rattle.pv_exec.specs.Tasks.{after_value}
use Rattle.pv_exec.specs.Works.{does}
use Rattle.pv_exec.proofs.Storing.{store-value, store-text, text-stops, goes-to}
use Rattle.pv_exec.proofs.Ticking.{ticked-setting, ticked-follows, ticked-state, ticked-keeps}
use Rattle.pv_exec.proofs.Leaving.{at-both}
use Rattle.pv_exec.proofs.stores.store.Goals as goal

pub returns-in-Node-clause-led : goal.returns-in-Node-clause-led
returns-in-Node-clause-led c = λ b out es hs hl k le tu lt.
    let u = c.args.unit.now in
    let old = c.args.machine.now in
    let mid = c.tick.new.self in
    let new = c.evaluate.new.machine in
    let o = c.args.o in
    let i = c.args.i in
    let s = state_of old.moment out es in
    let s1 = state_of mid.moment out es in
    let x = store_in u.known (nodes u) c.init_at-init.result in
    let e = expression_at u c.in-Node.e in
    let taken : mid.moment.taken ≡ old.moment.taken + 1 = ap (λ (m : Moment). m.taken) c.tick.ensures.moment in
    let inits = subst (λ (q : WholeUnit). drop i (object_at q o).inits ≡ x ∷ drop (i + 1) (object_at q o).inits) (sym hs.unit) c.init_at-init.ensures.store in
    let law = store-value b u k o i e x (drop (i + 1) (object_at b.unit o).inits) old.started s (tu refl) inits (ap (value_in (nodes u)) c.in-Node.is)
    ∙ ap (λ (q : State). then_do (full_expression b (below b k).call e q) (after_value b u k (task.Storing o i))) (ticked-state old.moment mid.moment out es c.tick.ensures.moment) in
    at-both b u (does b u k old.started (doing.Store o i) s) old.started mid.started new.started c.evaluate.result mid.moment new.moment out es c.evaluate.ensures.moment c.tick.ensures.started
    (c.evaluate.ensures.led b u k s1 (does b u k old.started (doing.Store o i) s) (omega (arith, lt, taken)) law)

pub returns-in-Ok-clause-led : goal.returns-in-Ok-clause-led
returns-in-Ok-clause-led c = λ b out es hs hl k le tu lt.
    let u = c.args.unit.now in
    let old = c.args.machine.now in
    let mid = c.tick.new.self in
    let new = c.put_text.new.self in
    let o = c.args.o in
    let i = c.args.i in
    let s = state_of old.moment out es in
    let s2 = state_of new.moment out es in
    let x = store_in u.known (nodes u) c.init_at-init.result in
    let hs' = ticked-setting b u old.moment mid.moment c.tick.ensures.moment hs in
    let hl' = ticked-follows old.moment mid.moment out c.tick.ensures.moment hl in
    let taken : mid.moment.taken ≡ old.moment.taken + 1 = ap (λ (m : Moment). m.taken) c.tick.ensures.moment in
    let inits = subst (λ (q : WholeUnit). drop i (object_at q o).inits ≡ x ∷ drop (i + 1) (object_at q o).inits) (sym hs.unit) c.init_at-init.ensures.store in
    let h = subst (λ (q : State). act b x.line (PutsText o x.offset (size_of b x.t) c.in-Text.l) q ≡ Gives Nothing s2) (sym (ticked-state old.moment mid.moment out es c.tick.ensures.moment)) (c.in-Ok.ensures.made b out es hs' hl' x.line) in
    let law = store-text b u k o i c.in-Text.l x (drop (i + 1) (object_at b.unit o).inits) old.started s (Gives Nothing s2) (tu refl) inits (ap (value_in (nodes u)) c.in-Text.is) h in
    goes-to b u k (does b u k old.started (doing.Store o i) s) c.next_store.result old.started new.started s2 (omega (arith, lt, taken, c.in-Ok.ensures.stays.taken)) (law ∙ sym (c.next_store.ensures.does b k new.started s2 hs.unit)) ((c.next_store.ensures.fits new.started).1 ∙ c.in-Ok.ensures.started ∙ c.tick.ensures.started)

pub returns-in-Err-clause-led : goal.returns-in-Err-clause-led
returns-in-Err-clause-led c = λ b out es hs hl k le tu lt.
    let hs' = ticked-setting b c.args.unit.now c.args.machine.now.moment c.tick.new.self.moment c.tick.ensures.moment hs in
    let hl' = ticked-follows c.args.machine.now.moment c.tick.new.self.moment out c.tick.ensures.moment hl in
    text-stops b c.args.unit.now (does b c.args.unit.now k c.args.machine.now.started (doing.Store c.args.o c.args.i) (state_of c.args.machine.now.moment out es)) c.in-Err.e c.args.machine.now.started c.put_text.new.self.started (state_of c.put_text.new.self.moment out es) c.in-Err.ensures.memory

pub returns-in-Ok-clause-setting : goal.returns-in-Ok-clause-setting
returns-in-Ok-clause-setting c = ticked-keeps c.args.machine.now.moment c.tick.new.self.moment c.put_text.new.self.moment c.tick.ensures.moment c.in-Ok.ensures.stays

pub returns-in-Err-clause-setting : goal.returns-in-Err-clause-setting
returns-in-Err-clause-setting c = ticked-keeps c.args.machine.now.moment c.tick.new.self.moment c.put_text.new.self.moment c.tick.ensures.moment c.in-Err.ensures.stays

pub returns-in-Ok-clause-ways : goal.returns-in-Ok-clause-ways
returns-in-Ok-clause-ways c = let f = c.next_store.ensures.fits c.put_text.new.self.started in (f.0, f.1 ∙ c.in-Ok.ensures.started ∙ c.tick.ensures.started)
