use Rattle.std.proofs.Common.{rules, ◌+◌, ◌<◌, ◌≡◌, [], length, ap, sym, arith, refl, ◌∙◌}
use Rattle.std.specs.Prelude.{drop}
use Rattle.pv_typed.specs.TypedUnits.{WholeUnit, object_at}
use Rattle.pv_typed.specs.Tables.{nodes, whole_unit, store_in}
use Rattle.pv_eval.specs.States.{Gives, then_do}
use Rattle.pv_exec.specs.Flows.{Falls}
use Rattle.pv_exec.specs.Lists.{store_all}
use Rattle.pv_exec.specs.OfRuns.{below}
use Rattle.pv_exec.specs.Tasks.{left_flow}
use Rattle.pv_exec.specs.Works.{does}
use Rattle.pv_exec.proofs.Inits.{mapped-length, dropped-all}
use Rattle.pv_exec.proofs.stores.next_store.Goals as goal

pub overflow_add-i : goal.overflow_add-i
overflow_add-i c =
    let u = c.args.unit.now in
    let e = mapped-length (store_in u.known (nodes u)) (object_at (whole_unit u) c.args.o).inits c.inits-count.result.now c.inits-count.ensures.stores in
    let lt = c.requires.there.1 in
    let few : c.args.i < length c.inits-count.result.now = omega (arith, e, lt) in
    search rules

pub returns-then-i-count-clause-does : goal.returns-then-i-count-clause-does
unfolding does
returns-then-i-count-clause-does c = λ b k es s e. refl

pub returns-else-i-count-clause-does : goal.returns-else-i-count-clause-does
unfolding does
returns-else-i-count-clause-does c = λ b k es s e.
    let u = c.args.unit.now in
    let o = c.args.o in
    let same = mapped-length (store_in u.known (nodes u)) (object_at (whole_unit u) o).inits c.inits-count.result.now c.inits-count.ensures.stores in
    let none : drop (c.args.i + 1) (object_at (whole_unit u) o).inits ≡ [] = dropped-all (object_at (whole_unit u) o).inits (c.args.i + 1) (grind (arith, same, c.if-i-count.false)) in
    sym (ap (λ xs. left_flow (then_do (store_all b (below b k).call o xs s) (λ v s. Gives Falls s))) (ap (λ (q : WholeUnit). drop (c.args.i + 1) (object_at q o).inits) e ∙ none))
