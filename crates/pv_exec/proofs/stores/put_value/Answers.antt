use Rattle.std.proofs.Common.{◌∙◌, ◌+◌, ◌≡◌, ◌∷◌, sym, subst, arith}
use Rattle.std.specs.Prelude.{drop}
use Rattle.pv_typed.specs.TypedUnits.{WholeUnit, object_at}
use Rattle.pv_typed.specs.Tables.{nodes, store_in}
use Rattle.pv_world.specs.Coming.{worth_of}
use Rattle.pv_eval.specs.Moments.{state_of}
use Rattle.pv_exec.proofs.Storing.{put-leads}
use Rattle.pv_exec.proofs.stores.put_value.Goals as goal

pub returns-in-Ok-clause-led : goal.returns-in-Ok-clause-led
returns-in-Ok-clause-led c = λ b out es hs hl k lt.
    let u = c.args.unit.now in
    let old = c.args.machine.now in
    let new = c.put.new.self in
    let o = c.args.o in
    let i = c.args.i in
    let s = state_of old.moment out es in
    let x = store_in u.known (nodes u) c.init_at-init.result in
    let inits = subst (λ (q : WholeUnit). drop i (object_at q o).inits ≡ x ∷ drop (i + 1) (object_at q o).inits) (sym hs.unit) c.init_at-init.ensures.store in
    put-leads b u k o i x (drop (i + 1) (object_at b.unit o).inits) c.next_store.result old.started new.started (worth_of c.args.v) s (state_of new.moment out es) (omega (arith, lt, c.in-Ok.ensures.stays.taken)) inits (c.in-Ok.ensures.made b out es hs hl x.line)
    (c.next_store.ensures.does b k new.started (state_of new.moment out es) hs.unit) ((c.next_store.ensures.fits new.started).1 ∙ c.in-Ok.ensures.started)

pub returns-in-Ok-clause-ways : goal.returns-in-Ok-clause-ways
returns-in-Ok-clause-ways c = let f = c.next_store.ensures.fits c.put.new.self.started in (f.0, f.1 ∙ c.in-Ok.ensures.started)

pub returns-in-Ok-clause-quick : goal.returns-in-Ok-clause-quick
returns-in-Ok-clause-quick c = (c.next_store.ensures.fits c.put.new.self.started).2
