use Rattle.std.proofs.Common.{refl}
use Rattle.pvwhere.proofs.CauseLemmas.{fine_served, text_served}
use Rattle.pvwhere.proofs.locating.answer.Goals as goal

pub returns-in-Ok-None : goal.returns-in-Ok-None
returns-in-Ok-None g c = fine_served _ _ _ (rw c.in-Ok-None.field-0-is at c.in-Ok-None.ensures) refl

pub returns-in-Ok-Some : goal.returns-in-Ok-Some
returns-in-Ok-Some g c =
    text_served _ _ c.as_slice.result.now _ _ (rw c.as_slice.ensures.value (rw c.in-Ok-Some.field-0-is at c.in-Ok-Some.ensures)) c.tell.ensures
