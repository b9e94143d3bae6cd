use Rattle.std.proofs.Common.{subst}
use Rattle.pv_seq.specs.Rivals.{top}
use Rattle.pv_eval.specs.Operations.{Equals}
use Rattle.pv_eval.specs.Ahead.{Led, move_of}
use Rattle.pv_eval.specs.OfRuns.{work}
use Rattle.pv_world.specs.Coming.{worth_of}
use Rattle.pv_eval.specs.Moments.{state_of}
use Rattle.pv_eval.proofs.Cases.{came-given, came-stops, led-then, setting-stays, before-stays}
use Rattle.pv_eval.proofs.Cases.{stays_both}
use Rattle.pv_eval.proofs.second_values.equality_right.Goals as goal

pub returns-in-Err-clause-led : goal.returns-in-Err-clause-led
returns-in-Err-clause-led c = λ b out es hs hl call js. came-stops b call c.args.unit.now _ _ c.in-Err.e js _ (c.in-Err.ensures.came b out es hs hl)

pub returns-clause-led : goal.returns-clause-led
returns-clause-led c = λ b out es hs hl call js.
    let s1 = c.in-Ok.ensures.stays in
    led-then b call c.args.unit.now _ _ _ _ c.give.result js _ (c.in-Ok.ensures.came b out es hs hl)
    (rw c.give.ensures
    (subst (λ t. Led b call c.args.unit.now (work b c.args.line (Equals t (worth_of c.args.v) (worth_of c.in-Ok.w)) (top js) (state_of c.convert.new.moment out es)) (move_of c.equal.result) js (state_of c.equal.new.self out es)) c.unequal.ensures
    (came-given b call c.args.unit.now c.equal.result _ js _ (c.equal.ensures.acted b out es (setting-stays b c.args.unit.now _ _ s1 hs) (before-stays _ _ out s1 hl)))))

pub returns-clause-stays : goal.returns-clause-stays
returns-clause-stays c = stays_both _ _ _ c.in-Ok.ensures.stays c.equal.ensures.stays
