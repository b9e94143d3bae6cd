use Rattle.std.proofs.Common.{◌∙◌, ap, sym, refl, Err, ℕ, List, arith, ◌+◌}
use Rattle.std.specs.Prelude.{slice_index, drop}
use Rattle.std.proofs.lemmas.List.{drop_more}
use Rattle.pv_typed.specs.TypedUnits.{WholeUnit}
use Rattle.pv_eval.specs.Moments.{state_of}
use Rattle.pv_exec.specs.OfRuns.{make_static}
use Rattle.pv_exec.specs.Lists.{make_statics}
use Rattle.pv_exec.proofs.Pieces.{setting-stays, before-stays, made-is, stays_both}
use Rattle.pv_exec.proofs.Inits.{dropped-all}
use Rattle.pv_exec.proofs.Readying.{each-more, each-stops}
use Rattle.pv_exec.proofs.preparing.make_statics.Goals as goal

pub returns-clause-made : goal.returns-clause-made
returns-clause-made c = λ b out es hs hl.
    let old = c.args.machine.now.moment in
    let mid = c.objects.machine.moment in
    let os = c.statics-objects.result.now in
    ap (λ (xs : List ℕ). make_statics b xs (state_of old out es)) (ap (λ (q : WholeUnit). q.statics) hs.unit ∙ sym c.statics-objects.ensures.value)
    ∙ c.objects.invariant.made b out es hs hl
    ∙ ap (λ (xs : List ℕ). make_statics b xs (state_of mid out es)) (dropped-all os c.objects.i (omega (arith, c.objects-test.false)))

pub returns-in-Err-clause-made : goal.returns-in-Err-clause-made
returns-in-Err-clause-made c = λ b out es hs hl.
    let u = c.args.unit.now in
    let old = c.args.machine.now.moment in
    let mid = c.objects.machine.moment in
    let new = c.make_static.new.machine.moment in
    let st = c.objects.invariant.stays in
    let os = c.statics-objects.result.now in
    let i = c.objects.i in
    let hs' = setting-stays b u old mid st hs in
    let hl' = before-stays old mid out st hl in
    let o = slice_index os i in
    made-is (make_statics b (drop i os) (state_of mid out es)) (make_statics b b.unit.statics (state_of old out es)) (Err c.in-Err.e) (state_of new out es)
    (ap (λ (xs : List ℕ). make_statics b xs (state_of old out es)) (ap (λ (q : WholeUnit). q.statics) hs.unit ∙ sym c.statics-objects.ensures.value) ∙ c.objects.invariant.made b out es hs hl)
    (each-stops (make_statics b) (λ x s. make_static b x s) (λ x xs s. refl) (drop i os) (drop (i + 1) os) o c.in-Err.e (state_of mid out es) (state_of new out es) (drop_more os i 0 c.objects-test.true) (c.in-Err.ensures.made b out es hs' hl'))

pub returns-in-Err-clause-stays : goal.returns-in-Err-clause-stays
returns-in-Err-clause-stays c = stays_both c.args.machine.now.moment c.objects.machine.moment c.make_static.new.machine.moment c.objects.invariant.stays c.in-Err.ensures.stays

pub objects-preserved : goal.objects-preserved
objects-preserved c =
    let u = c.args.unit.now in
    let old = c.args.machine.now.moment in
    let mid = c.objects.machine.moment in
    let new = c.make_static.new.machine.moment in
    let st = c.objects.invariant.stays in
    let os = c.statics-objects.result.now in
    let i = c.objects.i in
    let o = slice_index os i in
    record {
      made = λ b out es hs hl.
          let hs' = setting-stays b u old mid st hs in
          let hl' = before-stays old mid out st hl in
          c.objects.invariant.made b out es hs hl ∙ each-more (make_statics b) (λ x s. make_static b x s) (λ x xs s. refl) (drop i os) (drop (i + 1) os) o (state_of mid out es) (state_of new out es) (drop_more os i 0 c.objects-test.true) (c.in-Ok.ensures.made b out es hs' hl');
      started = c.in-Ok.ensures.started ∙ c.objects.invariant.started;
      stays = stays_both old mid new st c.in-Ok.ensures.stays;
    }
