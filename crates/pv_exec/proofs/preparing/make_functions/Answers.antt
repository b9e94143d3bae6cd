use Rattle.std.proofs.Common.{◌∙◌, ap, sym, subst, refl, Err, ℕ, List, arith, ◌+◌}
use Rattle.std.specs.Prelude.{slice_index, drop}
use Rattle.std.proofs.lemmas.List.{drop_more}
use Rattle.pv_typed.specs.TypedUnits.{WholeUnit, TypedFunction, function_at}
use Rattle.pv_eval.specs.Moments.{Made}
use Rattle.pv_eval.specs.Moments.{state_of}
use Rattle.pv_eval.specs.Operations.{MakesFunction, act}
use Rattle.pv_exec.specs.Lists.{make_functions}
use Rattle.pv_exec.proofs.Pieces.{setting-stays, before-stays, made-is, stays_both}
use Rattle.pv_exec.proofs.Inits.{dropped-all}
use Rattle.pv_exec.proofs.Readying.{each-more, each-stops}
use Rattle.pv_exec.proofs.preparing.make_functions.Goals as goal

pub returns-clause-made : goal.returns-clause-made
returns-clause-made c = λ b out es hs hl.
    let old = c.args.machine.now.moment in
    let mid = c.functions.machine.moment in
    let os = c.placed-functions.result.now in
    ap (λ (xs : List ℕ). make_functions b xs (state_of old out es)) (ap (λ (q : WholeUnit). q.placed) hs.unit ∙ sym c.placed-functions.ensures.value)
    ∙ c.functions.invariant.made b out es hs hl
    ∙ ap (λ (xs : List ℕ). make_functions b xs (state_of mid out es)) (dropped-all os c.functions.i (omega (arith, c.functions-test.false)))

pub returns-in-Err-clause-made : goal.returns-in-Err-clause-made
returns-in-Err-clause-made c = λ b out es hs hl.
    let u = c.args.unit.now in
    let old = c.args.machine.now.moment in
    let mid = c.functions.machine.moment in
    let new = c.make_function.new.self.moment in
    let st = c.functions.invariant.stays in
    let os = c.placed-functions.result.now in
    let i = c.functions.i in
    let hs' = setting-stays b u old mid st hs in
    let hl' = before-stays old mid out st hl in
    let o = slice_index os i in
    let line = sym (ap (λ (x : TypedFunction). x.line) c.function.ensures.function) ∙ sym (ap (λ (q : WholeUnit). (function_at q o).line) hs.unit) in
    made-is (make_functions b (drop i os) (state_of mid out es)) (make_functions b b.unit.placed (state_of old out es)) (Err c.in-Err.e) (state_of new out es)
    (ap (λ (xs : List ℕ). make_functions b xs (state_of old out es)) (ap (λ (q : WholeUnit). q.placed) hs.unit ∙ sym c.placed-functions.ensures.value) ∙ c.functions.invariant.made b out es hs hl)
    (each-stops (make_functions b) (λ x s. act b (function_at b.unit x).line (MakesFunction x) s) (λ x xs s. refl) (drop i os) (drop (i + 1) os) o c.in-Err.e (state_of mid out es) (state_of new out es) (drop_more os i 0 c.functions-test.true) (subst (λ (n : ℕ). Made (act b n (MakesFunction o) (state_of mid out es)) (Err c.in-Err.e) (state_of new out es)) line (c.in-Err.ensures.made b out es hs' hl')))

pub returns-in-Err-clause-stays : goal.returns-in-Err-clause-stays
returns-in-Err-clause-stays c = stays_both c.args.machine.now.moment c.functions.machine.moment c.make_function.new.self.moment c.functions.invariant.stays c.in-Err.ensures.stays

pub functions-preserved : goal.functions-preserved
functions-preserved c =
    let u = c.args.unit.now in
    let old = c.args.machine.now.moment in
    let mid = c.functions.machine.moment in
    let new = c.make_function.new.self.moment in
    let st = c.functions.invariant.stays in
    let os = c.placed-functions.result.now in
    let i = c.functions.i in
    let o = slice_index os i in
    record {
      made = λ b out es hs hl.
          let hs' = setting-stays b u old mid st hs in
          let hl' = before-stays old mid out st hl in
          let line = sym (ap (λ (x : TypedFunction). x.line) c.function.ensures.function) ∙ sym (ap (λ (q : WholeUnit). (function_at q o).line) hs.unit) in
          c.functions.invariant.made b out es hs hl ∙ each-more (make_functions b) (λ x s. act b (function_at b.unit x).line (MakesFunction x) s) (λ x xs s. refl) (drop i os) (drop (i + 1) os) o (state_of mid out es) (state_of new out es) (drop_more os i 0 c.functions-test.true) (ap (λ (n : ℕ). act b n (MakesFunction o) (state_of mid out es)) (sym line) ∙ c.in-Ok.ensures.made b out es hs' hl');
      started = c.in-Ok.ensures.started ∙ c.functions.invariant.started;
      stays = stays_both old mid new st c.in-Ok.ensures.stays;
    }
