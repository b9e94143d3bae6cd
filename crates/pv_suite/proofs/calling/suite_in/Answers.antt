use Rattle.pv_serve.specs.Outside.{sink_change}
use Rattle.pv_suite.proofs.ListLemmas.{list_served}
use Rattle.pv_suite.proofs.calling.suite_in.Goals as goal

pub returns-in-Ok-clause-served : goal.returns-in-Ok-clause-served
returns-in-Ok-clause-served g c =
    list_served c.args.name.now c.in-Ok.list.items (g.F.Files.held c.args.files.now) _ _ _ _ (sink_change g.R.Sink.written g.R.Sink.faults _ _) _ c.in-Ok.ensures.same c.in-Ok.ensures.later c.in-Ok.ensures.bytes
    (rw c.as_slice.ensures.value at c.suite_of.ensures.served)
