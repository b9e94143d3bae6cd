use Rattle.pv_serve.proofs.shipped.serve_shipped.Goals as goal

pub returns-clause-served : goal.returns-clause-served
returns-clause-served g c = c.serve_before.ensures.served
