use Rattle.std.proofs.Common.{List, ◌∙◌, ap, sym, arith, Err}
use Rattle.std.specs.Prelude.{drop, map, ℕ}
use Rattle.std.proofs.lemmas.List.{length-map}
use Rattle.pv_typed.specs.TypedUnits.{function_at}
use Rattle.pv_typed.specs.Tables.{whole_unit}
use Rattle.pv_world.specs.Coming.{worth_of}
use Rattle.pv_eval.specs.Moments.{state_of}
use Rattle.pv_exec.specs.OfRuns.{take_params}
use Rattle.pv_exec.proofs.Pieces.{setting-stays, before-stays, stays_both, made-is}
use Rattle.pv_exec.proofs.Inits.{dropped-all}
use Rattle.pv_exec.proofs.Params.{params-more, params-stop, no-arguments, argument-at}
use Rattle.pv_exec.proofs.calls.take_parameters.Goals as goal

pub returns-then-i-arguments-clause-made : goal.returns-then-i-arguments-clause-made
returns-then-i-arguments-clause-made c = λ b out es hs hl.
    let old = c.args.machine.now.moment in
    let mid = c.parameters.machine.moment in
    let i = c.parameters.i in
    let ps = c.params_of-params.result.now in
    let vs = map worth_of c.args.arguments.now in
    ap (λ (xs : List ℕ). take_params b c.args.line xs vs (state_of old out es)) (sym c.params_of-params.ensures.params)
    ∙ c.parameters.invariant.made b out es hs hl
    ∙ no-arguments b c.args.line (drop i ps) (drop i vs) (state_of mid out es) (dropped-all vs i (omega (arith, c.if-i-arguments.true, length-map c.args.arguments.now worth_of)))

pub returns-in-Err-clause-stays : goal.returns-in-Err-clause-stays
returns-in-Err-clause-stays c = stays_both c.args.machine.now.moment c.parameters.machine.moment c.take_parameter.new.machine.moment c.parameters.invariant.stays c.in-Err.ensures.stays

pub returns-in-Err-clause-made : goal.returns-in-Err-clause-made
returns-in-Err-clause-made c = λ b out es hs hl.
    let u = c.args.unit.now in
    let old = c.args.machine.now.moment in
    let mid = c.parameters.machine.moment in
    let new = c.take_parameter.new.machine.moment in
    let st = c.parameters.invariant.stays in
    let i = c.parameters.i in
    let ps = c.params_of-params.result.now in
    let vs = map worth_of c.args.arguments.now in
    let v = worth_of c.index-arguments-i.result in
    let d = argument-at c.args.arguments.now i c.index-arguments-i.result (omega (arith, c.if-i-arguments.false)) c.index-arguments-i.is in
    made-is (take_params b c.args.line (drop i ps) (drop i vs) (state_of mid out es)) (take_params b c.args.line (function_at (whole_unit u) c.args.f).params vs (state_of old out es)) (Err c.in-Err.e) (state_of new out es)
    (ap (λ (xs : List ℕ). take_params b c.args.line xs vs (state_of old out es)) (sym c.params_of-params.ensures.params) ∙ c.parameters.invariant.made b out es hs hl)
    (params-stop b c.args.line ps vs i v c.in-Err.e (state_of mid out es) (state_of new out es) c.parameters-test.true d (c.in-Err.ensures.made b out es (setting-stays b u old mid st hs) (before-stays old mid out st hl)))

pub parameters-preserved : goal.parameters-preserved
parameters-preserved c =
    let u = c.args.unit.now in
    let old = c.args.machine.now.moment in
    let mid = c.parameters.machine.moment in
    let new = c.take_parameter.new.machine.moment in
    let st = c.parameters.invariant.stays in
    let i = c.parameters.i in
    let ps = c.params_of-params.result.now in
    let vs = map worth_of c.args.arguments.now in
    let v = worth_of c.index-arguments-i.result in
    let d = argument-at c.args.arguments.now i c.index-arguments-i.result (omega (arith, c.if-i-arguments.false)) c.index-arguments-i.is in
    record {
      made = λ b out es hs hl. c.parameters.invariant.made b out es hs hl ∙ params-more b c.args.line ps vs i v (state_of mid out es) (state_of new out es) c.parameters-test.true d (c.in-Ok.ensures.made b out es (setting-stays b u old mid st hs) (before-stays old mid out st hl));
      started = c.in-Ok.ensures.started ∙ c.parameters.invariant.started;
      stays = stays_both old mid new st c.in-Ok.ensures.stays;
    }
