use Rattle.std.proofs.Common.{◌+◌, ap, sym, ◌∙◌, ◌∷◌, length, subst}
use Rattle.std.specs.Prelude.{Ok, Err}
use Rattle.pv_typed.specs.NodeTrees.{expression_at}
use Rattle.pv_eval.specs.Evaluation.{ev}
use Rattle.pv_seq.specs.Sequencing.{open_against}
use Rattle.pv_seq.specs.Rivals.{top, below}
use Rattle.pv_eval.specs.declared.frames.Move.TheVariants.{Give}
use Rattle.pv_eval.specs.Moments.{state_of}
use Rattle.pv_eval.specs.Ahead.{ahead, Led}
use Rattle.pv_eval.specs.Machines.{is_due_at, turns_at}
use Rattle.pv_eval.proofs.Machining.{never-ended}
use Rattle.pv_eval.proofs.Cases.{begun-on, begun-out, ok-any, led-kept, setting-begun}
use Rattle.pv_eval.proofs.running.step.Goals as goal

pub returns-in-Give-clause-kept : goal.returns-in-Give-clause-kept
returns-in-Give-clause-kept c = λ b out es hs hl call lt.
    let u = c.args.unit.now in
    let js = c.descend.new.journal in
    led-kept b call u _ _ c.unwind-in-Give.result c.unwind-in-Give.new.frames.items c.unwind-in-Give.new.journal _
    (ap (λ p. ahead b call u c.args.frames.now.items c.args.journal.now p (state_of c.args.moment.now out es)) c.in-Due.is
    ∙ c.in-Ok.ensures.same b call (state_of c.args.moment.now out es)
    ∙ begun-on b call u c.descend.new.frames.items js c.in-Ok.n (state_of c.args.moment.now out es) c.in-Ok.ensures.fresh (Give c.in-Give.v) (state_of c.begin.new.moment out es) (subst (λ m. Led b call u (ev b call (expression_at u c.in-Ok.n) (top js).foes (state_of c.args.moment.now out es)) (Ok m) (open_against (top js).foes ∷ below js) (state_of c.begin.new.moment out es)) c.in-Give.is (c.in-Ok-begin.ensures.led b out es hs hl call (top js) (below js) (lt (ap is_due_at c.in-Due.is)))))
    (c.unwind-in-Give.ensures.kept b out es (setting-begun b u _ _ c.begin.ensures.sides hs) (c.begin.ensures.total (length out) hl) call)

pub returns-in_default : goal.returns-in_default
returns-in_default c =
    let u = c.args.unit.now in
    let js = c.descend.new.journal in
    record {
      kept = λ b out es hs hl call lt.
          led-kept b call u _ _ c.follow.result c.follow.new.frames.items c.follow.new.journal _
          (ap (λ p. ahead b call u c.args.frames.now.items c.args.journal.now p (state_of c.args.moment.now out es)) c.in-Due.is
          ∙ c.in-Ok.ensures.same b call (state_of c.args.moment.now out es)
          ∙ begun-on b call u c.descend.new.frames.items js c.in-Ok.n (state_of c.args.moment.now out es) c.in-Ok.ensures.fresh c.in-Ok-begin.led (state_of c.begin.new.moment out es) (c.in-Ok-begin.ensures.led b out es hs hl call (top js) (below js) (lt (ap is_due_at c.in-Due.is))))
          (c.follow.ensures.kept b call u (state_of c.begin.new.moment out es));
      fits = c.follow.ensures.fits u c.in-Ok-begin.ensures.fits;
      frames = ok-any c.follow.result (c.follow.ensures.frames u c.in-Ok-begin.ensures.fits c.in-Ok.ensures.frames);
      matched = c.follow.ensures.matched c.in-Ok.ensures.matched;
      ended = never-ended c.follow.result _ (c.follow.ensures.goes c.in_default.not-Give);
      taken = c.in-Ok-begin.ensures.taken ∙ ap (λ p. c.args.moment.now.taken + turns_at p) (sym c.in-Due.is);
      setting = record { total = c.in-Ok-begin.ensures.total; sides = c.in-Ok-begin.ensures.sides };
    }

pub returns-in-Give-clause-taken : goal.returns-in-Give-clause-taken
returns-in-Give-clause-taken c = c.unwind-in-Give.ensures.stays.taken ∙ c.begin.ensures.taken ∙ ap (λ p. c.args.moment.now.taken + turns_at p) (sym c.in-Due.is)

pub returns-in-Give-clause-setting : goal.returns-in-Give-clause-setting
returns-in-Give-clause-setting c = record {
  total = λ k h. c.unwind-in-Give.ensures.stays.total k (c.begin.ensures.total k h);
  sides = c.unwind-in-Give.ensures.stays.sides ∙ c.begin.ensures.sides;
}

pub returns-in-Err-begin-clause-kept : goal.returns-in-Err-begin-clause-kept
returns-in-Err-begin-clause-kept c = λ b out es hs hl call lt.
    let u = c.args.unit.now in
    let js = c.descend.new.journal in
    led-kept b call u _ _ (Err c.in-Err-begin.e) c.descend.new.frames.items js (state_of c.begin.new.moment out es)
    (ap (λ p. ahead b call u c.args.frames.now.items c.args.journal.now p (state_of c.args.moment.now out es)) c.in-Due.is
    ∙ c.in-Ok.ensures.same b call (state_of c.args.moment.now out es))
    (begun-out b call u c.descend.new.frames.items js c.in-Ok.n (state_of c.args.moment.now out es) c.in-Ok.ensures.fresh c.in-Err-begin.e (open_against (top js).foes ∷ below js) js c.descend.new.frames.items (state_of c.begin.new.moment out es) (c.in-Err-begin.ensures.led b out es hs hl call (top js) (below js) (lt (ap is_due_at c.in-Due.is))))
