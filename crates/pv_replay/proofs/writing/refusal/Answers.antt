use Rattle.pv_serve.proofs.RepliesLemmas.{own_of}
use Rattle.pv_replay.proofs.writing.refusal.Goals as goal

pub returns-clause-own : goal.returns-clause-own
returns-clause-own c = own_of _ c.status.ensures.own
