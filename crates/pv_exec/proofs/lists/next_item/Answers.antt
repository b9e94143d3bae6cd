use Rattle.std.proofs.Common.{◌≡◌, ◌+◌, [], ◌∙◌, ap, sym, arith}
use Rattle.std.specs.Prelude.{slice_index_or}
use Rattle.std.proofs.lemmas.Grind.{common_steps}
use Rattle.pv_typed.specs.TypedUnits.{WholeUnit, object_at}
use Rattle.pv_typed.specs.Tables.{nodes, whole_unit, store_in}
use Rattle.pv_typed.specs.NodeTrees.{list_at}
use Rattle.pv_eval.specs.Moments.{state_of}
use Rattle.pv_exec.specs.OfRuns.{begin_fill}
use Rattle.pv_exec.proofs.Pieces.{setting-stays, before-stays, made-ok, stays_both}
use Rattle.pv_exec.proofs.Elements.{item-at, items-end, mapped-none}
use Rattle.pv_exec.proofs.Listing.{list-end, list-plain, list-declared, list-passed}
use Rattle.pv_exec.proofs.lists.next_item.Goals as goal

pub returns-in_default-clause-item : goal.returns-in_default-clause-item
returns-in_default-clause-item c = λ b out es hs hl w.
    let u = c.args.unit.now in
    let l = c.args.l in
    let i = c.items.i in
    let xs = c.children-items.result.now in
    c.items.invariant.passed b out es hs hl w
    ∙ list-plain b w u l i (i + 1) (slice_index_or xs i (record { 0 = 0 })) (state_of c.items.machine.moment out es) (item-at xs (list_at u l) i c.children-items.ensures c.items-test.true) (sym c.in_default.ensures.value)

pub returns-then-is_err-clause-stays : goal.returns-then-is_err-clause-stays
returns-then-is_err-clause-stays c = stays_both c.args.machine.now.moment c.items.machine.moment c.reach.new.machine.moment c.items.invariant.stays c.reach.ensures.stays

pub returns-then-not-is_empty-clause-stays : goal.returns-then-not-is_empty-clause-stays
returns-then-not-is_empty-clause-stays c = stays_both c.args.machine.now.moment c.items.machine.moment c.reach.new.machine.moment c.items.invariant.stays c.reach.ensures.stays

pub returns-then-not-is_empty-clause-item : goal.returns-then-not-is_empty-clause-item
returns-then-not-is_empty-clause-item c = λ b out es hs hl w.
    let u = c.args.unit.now in
    let l = c.args.l in
    let i = c.items.i in
    let o = c.in-Some.o in
    let xs = c.children-items.result.now in
    let old = c.args.machine.now.moment in
    let mid = c.items.machine.moment in
    let new = c.reach.new.machine.moment in
    let st = c.items.invariant.stays in
    let filled = made-ok c.reach.result (begin_fill b o (object_at b.unit o).braced (object_at b.unit o).inits (state_of mid out es)) (state_of new out es) (sym c.is_err.ensures.value ∙ c.if-is_err.false) (c.reach.ensures.made b out es (setting-stays b u old mid st hs) (before-stays old mid out st hl)) in
    c.items.invariant.passed b out es hs hl w
    ∙ list-declared b w u l i (i + 1) o (slice_index_or xs i (record { 0 = 0 })) (state_of mid out es) (state_of new out es) (item-at xs (list_at u l) i c.children-items.ensures c.items-test.true) (sym c.in-Some.ensures.value) filled

pub items-preserved : goal.items-preserved
items-preserved c =
    let u = c.args.unit.now in
    let l = c.args.l in
    let i = c.items.i in
    let o = c.in-Some.o in
    let xs = c.children-items.result.now in
    let old = c.args.machine.now.moment in
    let mid = c.items.machine.moment in
    let new = c.reach.new.machine.moment in
    let st = c.items.invariant.stays in
    let none : c.inits.result.now ≡ [] = grind (arith, common_steps) in
    record {
      passed = λ b out es hs hl w.
          let filled = made-ok c.reach.result (begin_fill b o (object_at b.unit o).braced (object_at b.unit o).inits (state_of mid out es)) (state_of new out es) (sym c.is_err.ensures.value ∙ c.if-is_err.false) (c.reach.ensures.made b out es (setting-stays b u old mid st hs) (before-stays old mid out st hl)) in
          let empty = ap (λ (q : WholeUnit). (object_at q o).inits) hs.unit ∙ mapped-none (store_in u.known (nodes u)) (object_at (whole_unit u) o).inits c.inits.result.now c.inits.ensures.stores none in
          c.items.invariant.passed b out es hs hl w
          ∙ list-declared b w u l i (i + 1) o (slice_index_or xs i (record { 0 = 0 })) (state_of mid out es) (state_of new out es) (item-at xs (list_at u l) i c.children-items.ensures c.items-test.true) (sym c.in-Some.ensures.value) filled
          ∙ list-passed b w u l (i + 1) o (state_of new out es) empty;
      started = c.reach.ensures.started ∙ c.items.invariant.started;
      stays = stays_both old mid new st c.reach.ensures.stays;
    }

pub returns-clause-item : goal.returns-clause-item
returns-clause-item c = λ b out es hs hl w.
    let u = c.args.unit.now in
    let xs = c.children-items.result.now in
    c.items.invariant.passed b out es hs hl w ∙ list-end b w u c.args.l c.items.i (state_of c.items.machine.moment out es) (items-end xs (list_at u c.args.l) c.items.i c.children-items.ensures (omega (arith, c.items-test.false)))
