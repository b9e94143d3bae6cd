use Rattle.std.proofs.Common.{refl, sym, ap, ◌∙◌}
use Rattle.pv_typed.specs.NodeTrees.{expression_at}
use Rattle.pv_seq.specs.Rivals.{top, below}
use Rattle.pv_eval.specs.States.{then_do}
use Rattle.pv_eval.specs.Sequenced.{operand}
use Rattle.pv_eval.specs.Evaluation.{ev}
use Rattle.pv_eval.specs.declared.frames.Stage.TheVariants.{First}
use Rattle.pv_eval.specs.Stack.{rest}
use Rattle.pv_eval.specs.Frames.{frame_after, after}
use Rattle.pv_eval.specs.Ahead.{stack}
use Rattle.pv_eval.proofs.running.descend.Goals as goal

pub down-preserved : goal.down-preserved
down-preserved c =
    let u = c.args.unit.now in
    let i = c.down.invariant in
    record {
      same = λ b call s.
          i.same b call s
          ∙ ap (λ m. then_do m (rest (after b call u) (stack c.down.frames.items (below c.down.journal))))
          (c.in-Some.ensures.some b call (top c.down.journal).foes s ∙ ap (λ o. operand (ev b call (expression_at u c.in-Some.a)) o s (frame_after b call u (record { node = c.down.n; stage = First }))) (sym i.fresh))
          ∙ c.if-not-wait.ensures.kept b call u s refl;
      there = c.in-Some.ensures.there;
      some = c.if-not-wait.ensures.some refl;
      fresh = c.if-not-wait.ensures.fresh refl;
      frames = c.if-not-wait.ensures.frames u (i.there, tt) i.frames;
      matched = c.if-not-wait.ensures.matched refl i.matched;
    }
