use Rattle.pv_replay.proofs.RunLemmas.{ran_reply, refusal_told, heard_so}
use Rattle.pv_replay.proofs.writing.reply_to.Goals as goal

pub returns-in-Ok-clause-written : goal.returns-in-Ok-clause-written
returns-in-Ok-clause-written g c = λ source script bound out told old new is.
    ran_reply source script bound out told _ _ _ _ _ old c.in-Ran.is is (heard_so _ _ new c.in-Ok.ensures)

pub returns-in_default-clause-written : goal.returns-in_default-clause-written
returns-in_default-clause-written g c = λ source script bound out told old new is.
    refusal_told source script bound out told _ _ (λ ran names most same. c.in_default.not-Ran ran names most same) is c.refusal.ensures.reply
