use Rattle.std.proofs.Common.{◌∙◌, ◌≡◌, ap, sym, subst, ℕ}
use Rattle.std.specs.Prelude.{map}
use Rattle.pv_typed.specs.TypedUnits.{TypedFunction, function_at}
use Rattle.pv_typed.specs.Tables.{whole_unit}
use Rattle.pv_world.specs.Worlds.{Nothing}
use Rattle.pv_world.specs.Coming.{worth_of}
use Rattle.pv_eval.specs.Operations.{BeginsBody, act}
use Rattle.pv_eval.specs.Moments.{state_of}
use Rattle.pv_eval.specs.States.{Gives}
use Rattle.pv_exec.proofs.Pieces.{setting-stays, before-stays, stays_both, made-ok}
use Rattle.pv_exec.proofs.Params.{begun-by}
use Rattle.pv_exec.proofs.calls.begin_function.Goals as goal

pub returns-clause-made : goal.returns-clause-made
returns-clause-made c = λ b out es hs hl.
    let u = c.args.unit.now in
    let old = c.args.machine.now.moment in
    let mid = c.begin_body-begun.new.self.moment in
    let new = c.take_parameters.new.machine.moment in
    let st = c.begin_body-begun.ensures.stays in
    let line = c.args.line in
    let s = state_of old out es in
    let s1 = state_of mid out es in
    let begun = made-ok c.begin_body-begun.result (act b line (BeginsBody c.function.result.name line) s) s1 (sym c.is_err.ensures.value ∙ c.if-is_err.false) (c.begin_body-begun.ensures.made u b out es hs hl line) in
    let named = subst (λ (n : ℕ). act b line (BeginsBody n line) s ≡ Gives Nothing s1) (sym (ap (λ (x : TypedFunction). x.name) c.function.ensures.function)) begun in
    begun-by b line (function_at (whole_unit u) c.args.f) (map worth_of c.args.arguments.now) c.take_parameters.result s s1 (state_of new out es) named (c.take_parameters.ensures.made b out es (setting-stays b u old mid st hs) (before-stays old mid out st hl))

pub returns-clause-stays : goal.returns-clause-stays
returns-clause-stays c = stays_both c.args.machine.now.moment c.begin_body-begun.new.self.moment c.take_parameters.new.machine.moment c.begin_body-begun.ensures.stays c.take_parameters.ensures.stays
