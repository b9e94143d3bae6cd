use Rattle.std.proofs.Common.{ap, sym, ◌∙◌}
use Rattle.std.specs.Prelude.{Err}
use Rattle.pv_eval.specs.Moments.{state_of}
use Rattle.pv_eval.specs.Ahead.{ahead}
use Rattle.pv_eval.specs.Machines.{is_due_at}
use Rattle.pv_eval.proofs.Cases.{led-kept}
use Rattle.pv_eval.proofs.Machining.{stepped-out}
use Rattle.pv_eval.proofs.started.Started.step.Goals as goal

pub returns-in-Err-clause-rest : goal.returns-in-Err-clause-rest
returns-in-Err-clause-rest c = λ b out es hs hl call others lt.
    let u = c.args.unit.now in
    let s = state_of c.args.moment.now out es in
    let place = ap (λ e. e.place) (sym c.self.view_is) ∙ sym c.replace-place.ensures.value in
    stepped-out b call u _ _ _ others c.in-Err.e c.step.new.journal
    (led-kept b call u _ _ (Err c.in-Err.e) c.step.new.frames.items c.step.new.journal _
    (ap (λ e. ahead b call u e.frames e.opens e.place s) (sym c.self.view_is) ∙ ap (λ h. ahead b call u h.frames.items h.journal c.self.inside.place s) (sym c.deref_mut-held.ensures.value) ∙ ap (λ p. ahead b call u c.deref_mut-held.result.now.frames.items c.deref_mut-held.result.now.journal p s) (sym c.replace-place.ensures.value))
    (c.in-Err.ensures.kept b out es hs hl call (λ h. lt (ap is_due_at place ∙ h))))
