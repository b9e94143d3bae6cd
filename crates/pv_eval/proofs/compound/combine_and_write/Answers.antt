use Rattle.pv_eval.proofs.Cases.{came-stops, led-then, setting-stays, before-stays}
use Rattle.pv_eval.proofs.Cases.{stays_both}
use Rattle.pv_eval.proofs.compound.combine_and_write.Goals as goal

pub returns-in-Err-clause-led : goal.returns-in-Err-clause-led
returns-in-Err-clause-led c = λ b out es hs hl call. came-stops b call c.args.unit.now _ _ c.in-Err.e c.args.journal.now _ (c.in-Err.ensures.came b out es hs hl)

pub returns-clause-led : goal.returns-clause-led
returns-clause-led c = λ b out es hs hl call.
    let u = c.args.unit.now in
    let s1 = c.in-Ok.ensures.stays in
    led-then b call u _ _ _ _ c.write_back.result c.write_back.new.journal _ (c.in-Ok.ensures.came b out es hs hl)
    (c.write_back.ensures.led b out es (setting-stays b u _ _ s1 hs) (before-stays _ _ out s1 hl) call)

pub returns-clause-stays : goal.returns-clause-stays
returns-clause-stays c = stays_both _ _ _ c.in-Ok.ensures.stays c.write_back.ensures.stays
