use Rattle.std.proofs.Common.{◌∙◌, ◌+◌, ◌≡◌, ◌∷◌, ap, sym, subst, arith}
use Rattle.std.specs.Prelude.{drop}
use Rattle.pv_typed.specs.TypedUnits.{WholeUnit, object_at}
use Rattle.pv_typed.specs.Tables.{nodes, store_in, value_in}
use Rattle.pv_eval.specs.Moments.{state_of}
use Rattle.pv_typed.specs.Formed.{HasValue}
use Rattle.pv_eval.specs.Machines.{after_first, ended_value}
use Rattle.pv_exec.proofs.Pieces.{setting-stays, before-stays, stays_both}
use Rattle.pv_exec.proofs.Storing.{value-stored, stored-stops, text-passed}
use Rattle.pv_exec.proofs.stores.after_store.Goals as goal

pub returns-in-Ok-clause-led : goal.returns-in-Ok-clause-led
returns-in-Ok-clause-led c = λ b out es hs hl k le lt.
    let u = c.args.unit.now in
    let old = c.args.machine.now in
    let mid = c.hand.new.self in
    let new = c.put_value.new.machine in
    let o = c.args.o in
    let i = c.args.i in
    let s = state_of old.moment out es in
    let x = store_in u.known (nodes u) c.init_at-init.result in
    let st = c.in-Ok.ensures.stays in
    let hs' = setting-stays b u old.moment mid.moment st hs in
    let hl' = before-stays old.moment mid.moment out st hl in
    let inits = subst (λ (q : WholeUnit). drop i (object_at q o).inits ≡ x ∷ drop (i + 1) (object_at q o).inits) (sym hs.unit) c.init_at-init.ensures.store in
    value-stored b u k o i c.line_of.result c.in-Node.e x (drop (i + 1) (object_at b.unit o).inits) c.in-Ok.v (after_first old.started) mid.started new.started c.put_value.result (ended_value old.started) s (state_of mid.moment out es) (state_of new.moment out es) inits (ap (value_in (nodes u)) c.in-Node.is) (c.line_of.ensures.expression (subst (HasValue u) c.in-Node.is c.init_at-init.ensures.value)) (c.in-Ok.ensures.handed b out es hs hl) c.in-Ok.ensures.started
    (c.put_value.ensures.led b out es hs' hl' k (omega (arith, lt, st.taken)))

pub returns-in-Err-clause-led : goal.returns-in-Err-clause-led
returns-in-Err-clause-led c = λ b out es hs hl k le lt.
    let u = c.args.unit.now in
    let old = c.args.machine.now in
    let mid = c.hand.new.self in
    let o = c.args.o in
    let i = c.args.i in
    let x = store_in u.known (nodes u) c.init_at-init.result in
    let inits = subst (λ (q : WholeUnit). drop i (object_at q o).inits ≡ x ∷ drop (i + 1) (object_at q o).inits) (sym hs.unit) c.init_at-init.ensures.store in
    stored-stops b u k o i c.line_of.result c.in-Node.e x (drop (i + 1) (object_at b.unit o).inits) c.in-Err.x (after_first old.started) mid.started (ended_value old.started) (state_of old.moment out es) (state_of mid.moment out es) inits (ap (value_in (nodes u)) c.in-Node.is) (c.line_of.ensures.expression (subst (HasValue u) c.in-Node.is c.init_at-init.ensures.value)) (c.in-Err.ensures.handed b out es hs hl)

pub returns-in-Text-clause-led : goal.returns-in-Text-clause-led
returns-in-Text-clause-led c = λ b out es hs hl k le lt.
    let u = c.args.unit.now in
    let old = c.args.machine.now in
    let new = c.value.new.self in
    let o = c.args.o in
    let i = c.args.i in
    let x = store_in u.known (nodes u) c.init_at-init.result in
    let inits = subst (λ (q : WholeUnit). drop i (object_at q o).inits ≡ x ∷ drop (i + 1) (object_at q o).inits) (sym hs.unit) c.init_at-init.ensures.store in
    text-passed b u k o i c.in-Text.field-0 x (drop (i + 1) (object_at b.unit o).inits) c.next_store.result (after_first old.started) new.started (ended_value old.started) old.moment new.moment out es lt inits (ap (value_in (nodes u)) c.in-Text.is) c.value.ensures.moment
    (c.next_store.ensures.does b k new.started (state_of old.moment out es) hs.unit) ((c.next_store.ensures.fits new.started).1 ∙ c.value.ensures.started)

pub returns-in-Ok-clause-stays : goal.returns-in-Ok-clause-stays
returns-in-Ok-clause-stays c = stays_both c.args.machine.now.moment c.hand.new.self.moment c.put_value.new.machine.moment c.in-Ok.ensures.stays c.put_value.ensures.stays

pub returns-in-Text-clause-ways : goal.returns-in-Text-clause-ways
returns-in-Text-clause-ways c = let f = c.next_store.ensures.fits c.value.new.self.started in (f.0, f.1 ∙ c.value.ensures.started)

pub returns-in-Text-clause-quick : goal.returns-in-Text-clause-quick
returns-in-Text-clause-quick c = (c.next_store.ensures.fits c.value.new.self.started).2
