use Rattle.pv_serve.proofs.ShippedLemmas.{shipped_served}
use Rattle.pv_serve.proofs.shipped.serve_before.Goals as goal

pub returns-clause-served : goal.returns-clause-served
returns-clause-served g c = shipped_served _ _ _ _ _ _ _ _ c.requires c.serve.ensures.served
