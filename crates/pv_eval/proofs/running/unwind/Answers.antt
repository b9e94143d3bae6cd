use Rattle.pv_seq.specs.Rivals.{top}
use Rattle.std.proofs.Common.{ap, ◌∙◌, arith, All}
use Rattle.std.specs.Prelude.{Err}
use Rattle.std.proofs.lemmas.Grind.{common_steps}
use Rattle.pv_eval.specs.Moments.{state_of}
use Rattle.pv_eval.specs.Ahead.{means, FrameFits}
use Rattle.pv_eval.proofs.Machining.{never-ended}
use Rattle.pv_eval.proofs.Cases.{went-on, went-out, ok-any, matched-after, led-kept, setting-stays, before-stays, stays_both}
use Rattle.pv_eval.specs.declared.frames.Move.TheVariants.{Give}
use Rattle.pv_eval.proofs.running.unwind.Goals as goal

pub returns-in_default-led : goal.returns-in_default-led
returns-in_default-led c =
    let u = c.args.unit.now in
    let i = c.frames.invariant in
    let front : All (FrameFits u) c.pop.new.self.items = grind (arith, common_steps) in
    record {
      kept = λ b out es hs hl call.
          led-kept b call u _ _ c.follow.result c.follow.new.frames.items c.follow.new.journal _
          (i.kept b out es hs hl call ∙ went-on b call u c.frames.frames.items c.pop.new.self.items c.in-Some.frame c.frames.journal c.leave.new.self c.frames.v (state_of c.frames.moment out es) c.in-Some.ensures.items i.matched c.leave.ensures c.resume.new.journal c.in-Ok.led (state_of c.resume.new.moment out es) c.in-Ok.ensures.below
          (c.in-Ok.ensures.led b out es (setting-stays b u _ _ i.stays hs) (before-stays _ _ out i.stays hl) call))
          (c.follow.ensures.kept b call u (state_of c.resume.new.moment out es));
      stays = stays_both _ _ _ i.stays c.in-Ok.ensures.stays;
      fits = c.follow.ensures.fits u c.in-Ok.ensures.fits;
      frames = ok-any c.follow.result (c.follow.ensures.frames u c.in-Ok.ensures.fits front);
      matched = c.follow.ensures.matched (matched-after c.frames.frames.items c.pop.new.self.items c.in-Some.frame c.frames.journal c.leave.new.self c.resume.new.journal c.in-Some.ensures.items i.matched c.leave.ensures c.in-Ok.ensures.below c.in-Ok.ensures.some);
      ended = never-ended c.follow.result _ (c.follow.ensures.goes c.in_default-led.not-Give);
    }

pub returns-in-Err-clause-kept : goal.returns-in-Err-clause-kept
returns-in-Err-clause-kept c = λ b out es hs hl call.
    let u = c.args.unit.now in
    let i = c.frames.invariant in
    led-kept b call u _ _ (Err c.in-Err.e) c.pop.new.self.items c.resume.new.journal (state_of c.resume.new.moment out es) (i.kept b out es hs hl call)
    (went-out b call u c.frames.frames.items c.pop.new.self.items c.in-Some.frame c.frames.journal c.leave.new.self c.frames.v (state_of c.frames.moment out es) c.in-Some.ensures.items i.matched c.leave.ensures c.in-Err.e c.resume.new.journal c.resume.new.journal c.pop.new.self.items (state_of c.resume.new.moment out es)
    (c.in-Err.ensures.led b out es (setting-stays b u _ _ i.stays hs) (before-stays _ _ out i.stays hl) call))

pub returns-in-Err-clause-stays : goal.returns-in-Err-clause-stays
returns-in-Err-clause-stays c = stays_both _ _ _ c.frames.invariant.stays c.in-Err.ensures.stays

pub frames-preserved : goal.frames-preserved
frames-preserved c =
    let u = c.args.unit.now in
    let i = c.frames.invariant in
    let front : All (FrameFits u) c.pop.new.self.items = grind (arith, common_steps) in
    record {
      kept = λ b out es hs hl call.
          i.kept b out es hs hl call ∙ went-on b call u c.frames.frames.items c.pop.new.self.items c.in-Some.frame c.frames.journal c.leave.new.self c.frames.v (state_of c.frames.moment out es) c.in-Some.ensures.items i.matched c.leave.ensures c.resume.new.journal (Give c.in-Give.w) (state_of c.resume.new.moment out es) c.in-Ok.ensures.below
          (c.in-Ok.ensures.led b out es (setting-stays b u _ _ i.stays hs) (before-stays _ _ out i.stays hl) call ∙ ap (λ m. means b call u m (top c.resume.new.journal) (state_of c.resume.new.moment out es)) c.in-Give.is);
      stays = stays_both _ _ _ i.stays c.in-Ok.ensures.stays;
      frames = front;
      matched = matched-after c.frames.frames.items c.pop.new.self.items c.in-Some.frame c.frames.journal c.leave.new.self c.resume.new.journal c.in-Some.ensures.items i.matched c.leave.ensures c.in-Ok.ensures.below c.in-Ok.ensures.some;
    }
