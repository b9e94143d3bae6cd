use Rattle.std.proofs.Common.{◌∙◌, ap, sym, subst, refl, Err, ℕ, List, arith, ◌+◌}
use Rattle.std.specs.Prelude.{slice_index, drop}
use Rattle.std.proofs.lemmas.List.{drop_more}
use Rattle.pv_typed.specs.TypedUnits.{WholeUnit, literal_at}
use Rattle.pv_eval.specs.Moments.{Made}
use Rattle.pv_eval.specs.Moments.{state_of}
use Rattle.pv_eval.specs.Operations.{MakesLiteral, act}
use Rattle.pv_exec.specs.Lists.{make_literals}
use Rattle.pv_exec.proofs.Pieces.{setting-stays, before-stays, made-is, stays_both}
use Rattle.pv_exec.proofs.Inits.{dropped-all}
use Rattle.pv_exec.proofs.Readying.{each-more, each-stops}
use Rattle.pv_exec.proofs.preparing.make_literals.Goals as goal

pub returns-clause-made : goal.returns-clause-made
returns-clause-made c = λ b out es hs hl.
    let old = c.args.machine.now.moment in
    let mid = c.literals.machine.moment in
    let os = c.literals-literals.result.now in
    ap (λ (xs : List ℕ). make_literals b xs (state_of old out es)) (ap (λ (q : WholeUnit). q.instances) hs.unit ∙ sym c.literals-literals.ensures.value)
    ∙ c.literals.invariant.made b out es hs hl
    ∙ ap (λ (xs : List ℕ). make_literals b xs (state_of mid out es)) (dropped-all os c.literals.i (omega (arith, c.literals-test.false)))

pub returns-in-Err-clause-made : goal.returns-in-Err-clause-made
returns-in-Err-clause-made c = λ b out es hs hl.
    let u = c.args.unit.now in
    let old = c.args.machine.now.moment in
    let mid = c.literals.machine.moment in
    let new = c.make_literal.new.self.moment in
    let st = c.literals.invariant.stays in
    let os = c.literals-literals.result.now in
    let i = c.literals.i in
    let hs' = setting-stays b u old mid st hs in
    let hl' = before-stays old mid out st hl in
    let o = slice_index os i in
    let line = c.literal_line.ensures ∙ sym (ap (λ (q : WholeUnit). (literal_at q o).line) hs.unit) in
    made-is (make_literals b (drop i os) (state_of mid out es)) (make_literals b b.unit.instances (state_of old out es)) (Err c.in-Err.e) (state_of new out es)
    (ap (λ (xs : List ℕ). make_literals b xs (state_of old out es)) (ap (λ (q : WholeUnit). q.instances) hs.unit ∙ sym c.literals-literals.ensures.value) ∙ c.literals.invariant.made b out es hs hl)
    (each-stops (make_literals b) (λ x s. act b (literal_at b.unit x).line (MakesLiteral x) s) (λ x xs s. refl) (drop i os) (drop (i + 1) os) o c.in-Err.e (state_of mid out es) (state_of new out es) (drop_more os i 0 c.literals-test.true) (subst (λ (n : ℕ). Made (act b n (MakesLiteral o) (state_of mid out es)) (Err c.in-Err.e) (state_of new out es)) line (c.in-Err.ensures.made b out es hs' hl')))

pub returns-in-Err-clause-stays : goal.returns-in-Err-clause-stays
returns-in-Err-clause-stays c = stays_both c.args.machine.now.moment c.literals.machine.moment c.make_literal.new.self.moment c.literals.invariant.stays c.in-Err.ensures.stays

pub literals-preserved : goal.literals-preserved
literals-preserved c =
    let u = c.args.unit.now in
    let old = c.args.machine.now.moment in
    let mid = c.literals.machine.moment in
    let new = c.make_literal.new.self.moment in
    let st = c.literals.invariant.stays in
    let os = c.literals-literals.result.now in
    let i = c.literals.i in
    let o = slice_index os i in
    record {
      made = λ b out es hs hl.
          let hs' = setting-stays b u old mid st hs in
          let hl' = before-stays old mid out st hl in
          let line = c.literal_line.ensures ∙ sym (ap (λ (q : WholeUnit). (literal_at q o).line) hs.unit) in
          c.literals.invariant.made b out es hs hl ∙ each-more (make_literals b) (λ x s. act b (literal_at b.unit x).line (MakesLiteral x) s) (λ x xs s. refl) (drop i os) (drop (i + 1) os) o (state_of mid out es) (state_of new out es) (drop_more os i 0 c.literals-test.true) (ap (λ (n : ℕ). act b n (MakesLiteral o) (state_of mid out es)) (sym line) ∙ c.in-Ok.ensures.made b out es hs' hl');
      started = c.in-Ok.ensures.started ∙ c.literals.invariant.started;
      stays = stays_both old mid new st c.in-Ok.ensures.stays;
    }
