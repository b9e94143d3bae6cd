use Rattle.pv_serve.specs.Outside.{sink_change}
use Rattle.pv_serve.proofs.RunLemmas.{is_run, run_judged, run_cut_off}
use Rattle.pv_serve.proofs.tasks.run_watched.Goals as goal

pub run_unit-requires : goal.run_unit-requires
run_unit-requires g c = c.requires

pub returns-in-Ok : goal.returns-in-Ok
returns-in-Ok g c = record {
  judged = run_judged c.args.unit c.args.lines c.args.bound _ _ _ _ _ _ (is_run _ _ _ _ _) c.in-Ok.ensures.ran;
  part = tt;
  cause = tt;
}

pub returns-in-Err : goal.returns-in-Err
returns-in-Err g c = record {
  judged = tt;
  part = run_cut_off _ c.args.lines c.args.bound _ (sink_change g.O.Sink.written g.O.Sink.faults _ _) _ _ _ (is_run c.args.unit _ _ _ _) c.in-Err.ensures.left;
  cause = c.in-Err.ensures.cause;
}
