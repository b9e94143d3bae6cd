use Rattle.std.proofs.Common.{refl}
use Rattle.pv_serve.proofs.CausesLemmas.{reported_nothing, reported_by}
use Rattle.pv_serve.proofs.serving.told.Goals as goal

pub returns-in-Err : goal.returns-in-Err
returns-in-Err g c = reported_nothing _ _ _ refl

pub returns-in-Ok : goal.returns-in-Ok
returns-in-Ok g c =
    reported_by c.args.judgement.now _ _ c.as_slice.result.now _ _ (rw c.as_slice.ensures.value c.in-Ok.ensures) c.status.ensures.value c.status.ensures.own c.tell.ensures
