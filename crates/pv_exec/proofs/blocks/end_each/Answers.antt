use Rattle.std.proofs.Common.{◌∙◌}
use Rattle.std.specs.Prelude.{slice_index}
use Rattle.pv_typed.specs.TypedUnits.{object_at}
use Rattle.pv_eval.specs.Moments.{state_of}
use Rattle.pv_exec.proofs.Pieces.{setting-stays, before-stays, stays_both}
use Rattle.pv_exec.proofs.Makings.{end-more}
use Rattle.pv_exec.proofs.blocks.end_each.Goals as goal

pub returns-in-Err-clause-stays : goal.returns-in-Err-clause-stays
returns-in-Err-clause-stays c = stays_both c.args.machine.now.moment c.objects.machine.moment c.finish.new.self.moment c.objects.invariant.stays c.in-Err.ensures.stays

pub objects-preserved : goal.objects-preserved
objects-preserved c =
    let u = c.args.unit.now in
    let old = c.args.machine.now.moment in
    let mid = c.objects.machine.moment in
    let new = c.finish.new.self.moment in
    let st = c.objects.invariant.stays in
    let os = c.args.objects.now in
    let i = c.objects.i in
    record {
      made = λ b out es hs hl. c.objects.invariant.made b out es hs hl ∙ end-more b os i (state_of mid out es) (state_of new out es) c.objects-test.true (c.in-Ok.ensures.made b out es (setting-stays b u old mid st hs) (before-stays old mid out st hl) (object_at b.unit (slice_index os i)).line);
      started = c.in-Ok.ensures.started ∙ c.objects.invariant.started;
      stays = stays_both old mid new st c.in-Ok.ensures.stays;
    }
