use Rattle.pv_eval.proofs.Cases.{came-given, came-stops, led-then, setting-stays, before-stays}
use Rattle.pv_eval.proofs.Cases.{stays_both}
use Rattle.pv_eval.proofs.second_values.arithmetic_right.Goals as goal

pub returns-in-Err-clause-led : goal.returns-in-Err-clause-led
returns-in-Err-clause-led c = λ b out es hs hl call js. came-stops b call c.args.unit.now _ _ c.in-Err.e js _ (c.in-Err.ensures.came b out es hs hl)

pub returns-clause-led : goal.returns-clause-led
returns-clause-led c = λ b out es hs hl call js.
    let s1 = c.in-Ok.ensures.stays in
    led-then b call c.args.unit.now _ _ _ _ c.give.result js _ (c.in-Ok.ensures.came b out es hs hl)
    (rw (c.give.ensures, ← c.kind-kind.ensures) (came-given b call c.args.unit.now c.calculate.result _ js _ (c.calculate.ensures.acted b out es (setting-stays b c.args.unit.now _ _ s1 hs) (before-stays _ _ out s1 hl))))

pub returns-clause-stays : goal.returns-clause-stays
returns-clause-stays c = stays_both _ _ _ c.in-Ok.ensures.stays c.calculate.ensures.stays
