use Rattle.std.proofs.Common.{subst}
use Rattle.pv_world.specs.Coming.{worth_of}
use Rattle.pv_eval.specs.Operations.{Needs, act}
use Rattle.pv_eval.specs.Moments.{Needed, state_of}
use Rattle.pv_eval.proofs.Cases.{needed-stopped, needed-then, setting-stays, before-stays, stays_both}
use Rattle.pv_eval.proofs.converting.need.Goals as goal

pub returns-in-Ok-clause-needed : goal.returns-in-Ok-clause-needed
returns-in-Ok-clause-needed c = λ b out es hs hl.
    let s1 = c.in-Ok.ensures.stays in
    needed-then _ _ _ _ c.need.result _ (c.in-Ok.ensures.came b out es hs hl)
    (subst (λ l. Needed (act b l (Needs (worth_of c.in-Ok.v)) (state_of c.convert.new.moment out es)) c.need.result (state_of c.need.new.self out es)) (c.line_of.ensures.expression c.requires.there)
    (c.need.ensures.needed c.args.unit.now b out es (setting-stays b c.args.unit.now _ _ s1 hs) (before-stays _ _ out s1 hl)))

pub returns-in-Err-clause-needed : goal.returns-in-Err-clause-needed
returns-in-Err-clause-needed c = λ b out es hs hl. needed-stopped _ _ c.in-Err.e _ (c.in-Err.ensures.came b out es hs hl)

pub returns-in-Ok-clause-stays : goal.returns-in-Ok-clause-stays
returns-in-Ok-clause-stays c = stays_both _ _ _ c.in-Ok.ensures.stays c.need.ensures.stays
