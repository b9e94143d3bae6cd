use Rattle.std.proofs.Common.{◌∙◌, ap, sym, Err}
use Rattle.std.specs.Prelude.{slice_index, drop}
use Rattle.pv_typed.specs.TypedUnits.{TypedObject, WholeUnit, object_at}
use Rattle.pv_typed.specs.Trees.{declared_of}
use Rattle.pv_typed.specs.NodeTrees.{statement_at}
use Rattle.pv_eval.specs.Moments.{state_of}
use Rattle.pv_exec.specs.Lists.{make_all}
use Rattle.pv_exec.proofs.Pieces.{setting-stays, before-stays, made-is, stays_both}
use Rattle.pv_exec.proofs.Makings.{make-stops, make-more}
use Rattle.pv_exec.proofs.blocks.make_objects.Goals as goal

pub returns-in-Err-clause-made : goal.returns-in-Err-clause-made
returns-in-Err-clause-made c = λ b out es hs hl.
    let u = c.args.unit.now in
    let st = c.objects.invariant.stays in
    let os = c.declared-objects.result.now in
    let old = c.args.machine.now.moment in
    let m = c.objects.machine.moment in
    let hs' = setting-stays b u old m st hs in
    let o = slice_index os c.objects.i in
    let line = ap (λ (x : TypedObject). x.line) (ap (λ (q : WholeUnit). object_at q o) hs.unit ∙ c.object.ensures.object) in
    made-is (make_all b (drop c.objects.i os) (state_of m out es)) (make_all b (declared_of (statement_at u c.args.n)) (state_of old out es)) (Err c.in-Err.e) (state_of c.make.new.self.moment out es)
    (ap (λ xs. make_all b xs (state_of old out es)) (sym c.declared-objects.ensures.objects) ∙ c.objects.invariant.made b out es hs hl)
    (make-stops b os c.objects.i c.object.result.line c.in-Err.e (state_of m out es) (state_of c.make.new.self.moment out es) c.objects-test.true line (c.in-Err.ensures.made b out es hs' (before-stays old m out st hl)))

pub returns-in-Err-clause-stays : goal.returns-in-Err-clause-stays
returns-in-Err-clause-stays c = stays_both c.args.machine.now.moment c.objects.machine.moment c.make.new.self.moment c.objects.invariant.stays c.in-Err.ensures.stays

pub objects-preserved : goal.objects-preserved
objects-preserved c =
    let u = c.args.unit.now in
    let old = c.args.machine.now.moment in
    let mid = c.objects.machine.moment in
    let new = c.make.new.self.moment in
    let st = c.objects.invariant.stays in
    let os = c.declared-objects.result.now in
    let i = c.objects.i in
    record {
      made = λ b out es hs hl.
          let line = ap (λ (x : TypedObject). x.line) (ap (λ (q : WholeUnit). object_at q (slice_index os i)) hs.unit ∙ c.object.ensures.object) in
          c.objects.invariant.made b out es hs hl ∙ make-more b os i c.object.result.line (state_of mid out es) (state_of new out es) c.objects-test.true line (c.in-Ok.ensures.made b out es (setting-stays b u old mid st hs) (before-stays old mid out st hl));
      started = c.in-Ok.ensures.started ∙ c.objects.invariant.started;
      stays = stays_both old mid new st c.in-Ok.ensures.stays;
    }
