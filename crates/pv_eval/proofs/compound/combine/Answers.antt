use Rattle.pv_eval.proofs.Cases.{came-stopped, setting-stays, before-stays}
use Rattle.pv_eval.proofs.Cases.{came-then}
use Rattle.pv_eval.proofs.Cases.{stays_both}
use Rattle.pv_eval.proofs.compound.combine.Goals as goal

pub returns-in-Ok-clause-came : goal.returns-in-Ok-clause-came
returns-in-Ok-clause-came c = λ b out es hs hl.
    let s1 = c.in-Ok.ensures.stays in
    came-then _ _ _ _ c.round.result _ (c.in-Ok.ensures.acted b out es hs hl)
    (c.round.ensures.acted b out es (setting-stays b c.args.unit.now _ _ s1 hs) (before-stays _ _ out s1 hl))

pub returns-in-Err-clause-came : goal.returns-in-Err-clause-came
returns-in-Err-clause-came c = λ b out es hs hl. came-stopped _ _ c.in-Err.e _ (c.in-Err.ensures.acted b out es hs hl)

pub returns-in-Ok-clause-stays : goal.returns-in-Ok-clause-stays
returns-in-Ok-clause-stays c = stays_both _ _ _ c.in-Ok.ensures.stays c.round.ensures.stays
