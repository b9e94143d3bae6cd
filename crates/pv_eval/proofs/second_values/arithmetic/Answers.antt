use Rattle.pv_eval.proofs.Cases.{came-stops, led-then, setting-stays, before-stays}
use Rattle.pv_eval.proofs.Cases.{stays_both}
use Rattle.pv_eval.proofs.second_values.arithmetic.Goals as goal

pub returns-in-Err-clause-led : goal.returns-in-Err-clause-led
returns-in-Err-clause-led c = λ b out es hs hl call js. came-stops b call c.args.unit.now _ _ c.in-Err.e js _ (c.in-Err.ensures.came b out es hs hl)

pub returns-clause-led : goal.returns-clause-led
returns-clause-led c = λ b out es hs hl call js.
    let s1 = c.in-Ok.ensures.stays in
    led-then b call c.args.unit.now _ _ _ _ c.arithmetic_right.result js _ (c.in-Ok.ensures.came b out es hs hl)
    (c.arithmetic_right.ensures.led b out es (setting-stays b c.args.unit.now _ _ s1 hs) (before-stays _ _ out s1 hl) call js)

pub returns-clause-stays : goal.returns-clause-stays
returns-clause-stays c = stays_both _ _ _ c.in-Ok.ensures.stays c.arithmetic_right.ensures.stays
