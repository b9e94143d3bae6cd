use Rattle.std.proofs.Common.{◌∙◌, ◌+◌, ◌≡◌, ap, refl, arith, Err, List}
use Rattle.std.specs.Prelude.{drop, length}
use Rattle.pv_typed.specs.TypedUnits.{Store, WholeUnit, object_at}
use Rattle.pv_typed.specs.Tables.{nodes, whole_unit, store_in}
use Rattle.pv_eval.specs.States.{State}
use Rattle.pv_eval.specs.Moments.{state_of}
use Rattle.pv_exec.specs.OfRuns.{store_static}
use Rattle.pv_exec.specs.Lists.{store_statics}
use Rattle.pv_exec.proofs.Pieces.{setting-stays, before-stays, made-is, stays_both}
use Rattle.pv_exec.proofs.Inits.{dropped-all, mapped-length}
use Rattle.pv_exec.proofs.Readying.{each-more, each-stops, split-at}
use Rattle.pv_exec.proofs.preparing.store_statics.Goals as goal

pub returns-clause-made : goal.returns-clause-made
returns-clause-made c = λ b out es hs hl.
    let u = c.args.unit.now in
    let o = c.args.o in
    let mid = c.stores.machine.moment in
    let xs = (object_at (whole_unit u) o).inits in
    let n : length xs ≡ length c.inits-stores.result.now = mapped-length (store_in u.known (nodes u)) xs c.inits-stores.result.now c.inits-stores.ensures.stores in
    let none = dropped-all xs c.stores.i (omega (arith, n, c.stores-test.false)) in
    c.stores.invariant.made b out es hs hl
    ∙ ap (λ (ys : List Store). store_statics b o ys (state_of mid out es)) (ap (λ (q : WholeUnit). drop c.stores.i (object_at q o).inits) hs.unit ∙ none)

pub returns-in-Err-clause-made : goal.returns-in-Err-clause-made
returns-in-Err-clause-made c = λ b out es hs hl.
    let u = c.args.unit.now in
    let o = c.args.o in
    let i = c.stores.i in
    let old = c.args.machine.now.moment in
    let mid = c.stores.machine.moment in
    let new = c.store_static.new.machine.moment in
    let st = c.stores.invariant.stays in
    let xs = (object_at b.unit o).inits in
    let n : length (object_at (whole_unit u) o).inits ≡ length c.inits-stores.result.now = mapped-length (store_in u.known (nodes u)) (object_at (whole_unit u) o).inits c.inits-stores.result.now c.inits-stores.ensures.stores in
    let m : length xs ≡ length (object_at (whole_unit u) o).inits = ap (λ (q : WholeUnit). length (object_at q o).inits) hs.unit in
    made-is (store_statics b o (drop i xs) (state_of mid out es)) (store_statics b o xs (state_of old out es)) (Err c.in-Err.e) (state_of new out es) (c.stores.invariant.made b out es hs hl)
    (split-at xs i (omega (arith, m, n, c.stores-test.true)) (λ x e.
    each-stops (store_statics b o) (λ (x : Store) (s : State). store_static b o x x.what s) (λ x xs s. refl) (drop i xs) (drop (i + 1) xs) x c.in-Err.e (state_of mid out es) (state_of new out es) e (c.in-Err.ensures.made b out es (setting-stays b u old mid st hs) (before-stays old mid out st hl) x (drop (i + 1) xs) e)))

pub returns-in-Err-clause-stays : goal.returns-in-Err-clause-stays
returns-in-Err-clause-stays c = stays_both c.args.machine.now.moment c.stores.machine.moment c.store_static.new.machine.moment c.stores.invariant.stays c.in-Err.ensures.stays

pub stores-preserved : goal.stores-preserved
stores-preserved c =
    let u = c.args.unit.now in
    let o = c.args.o in
    let i = c.stores.i in
    let old = c.args.machine.now.moment in
    let mid = c.stores.machine.moment in
    let new = c.store_static.new.machine.moment in
    let st = c.stores.invariant.stays in
    let n : length (object_at (whole_unit u) o).inits ≡ length c.inits-stores.result.now = mapped-length (store_in u.known (nodes u)) (object_at (whole_unit u) o).inits c.inits-stores.result.now c.inits-stores.ensures.stores in
    record {
      made = λ b out es hs hl.
          let xs = (object_at b.unit o).inits in
          let m : length xs ≡ length (object_at (whole_unit u) o).inits = ap (λ (q : WholeUnit). length (object_at q o).inits) hs.unit in
          c.stores.invariant.made b out es hs hl ∙ split-at xs i (omega (arith, m, n, c.stores-test.true)) (λ x e.
          each-more (store_statics b o) (λ (x : Store) (s : State). store_static b o x x.what s) (λ x xs s. refl) (drop i xs) (drop (i + 1) xs) x (state_of mid out es) (state_of new out es) e (c.in-Ok.ensures.made b out es (setting-stays b u old mid st hs) (before-stays old mid out st hl) x (drop (i + 1) xs) e));
      started = c.in-Ok.ensures.started ∙ c.stores.invariant.started;
      stays = stays_both old mid new st c.in-Ok.ensures.stays;
    }
