use Rattle.std.proofs.Common.{inl}
use Rattle.pv_script.proofs.GainsLemmas.{gains_nothing}
use Rattle.pv_serve.specs.Outside.{sink_change}
use Rattle.pv_serve.proofs.LateLemmas.{none_highs}
use Rattle.pv_serve.proofs.RunLemmas.{is_run, settled_judged, settled_cut_off}
use Rattle.pv_serve.proofs.SidesLemmas.{are_listed}
use Rattle.pv_serve.proofs.tasks.run_settled.Goals as goal

pub run_unit-requires : goal.run_unit-requires
run_unit-requires g c = c.requires

pub returns-in-Err : goal.returns-in-Err
returns-in-Err g c = record {
  judged = λ hall same. tt;
  part = λ hall same. inl (gains_nothing _);
  cause = tt;
}

pub returns-in-Ok-run_unit : goal.returns-in-Ok-run_unit
returns-in-Ok-run_unit g c = record {
  judged = λ hall same. settled_judged c.args.unit c.args.lines c.args.bound _ _ _ _ hall _ _ _ same (are_listed _ _ _ c.is_none.ensures) c.in-Ok-run_unit.ensures.ran
      (none_highs c.args.sides (λ x. x.now) _ c.in-Ok-run_unit.ensures.late) (none_highs c.args.sides (λ x. x.now) _ c.in-Ok-run_unit.ensures.sooner);
  part = λ hall same. tt;
  cause = tt;
}

pub returns : goal.returns
returns g c = record {
  judged = λ hall same. tt;
  part = λ hall same. settled_cut_off _ c.args.lines c.args.bound _ _ (sink_change g.O.Sink.written g.O.Sink.faults _ _) _ hall _ _ same (is_run c.args.unit _ _ _ _) c.in-Err-run_unit.ensures.left;
  cause = c.in-Err-run_unit.ensures.cause;
}
