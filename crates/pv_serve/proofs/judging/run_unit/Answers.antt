use Rattle.pv_serve.specs.declared.judging.Named.{Named}
use Rattle.pv_serve.specs.Outside.{sink_change}
use Rattle.pv_serve.proofs.RunLemmas.{runnable, left_by, let_out_by, fault_of}
use Rattle.pv_serve.proofs.judging.run_unit.Goals as goal

pub run-requires : goal.run-requires
run-requires g c = record { runnable = runnable _ c.requires.fit.known; main = c.requires.fit.main; bound = c.requires.bound.1 }

pub returns-in-Ok : goal.returns-in-Ok
returns-in-Ok g c = record {
  ran = record { ended = c.in-Ok.ensures.ran; gains = c.in-Ok.ensures.gains; told = c.in-Ok.ensures.told; words = c.in-Ok.ensures.words; named = c.names_of-names.ensures };
  left = tt;
  cause = tt;
  late = c.in-Ok.ensures.late;
  sooner = c.in-Ok.ensures.sooner;
  streams = tt;
}

pub returns-in-Err : goal.returns-in-Err
returns-in-Err g c = record {
  ran = tt;
  left = left_by (sink_change g.O.Sink.written g.O.Sink.faults _ _) _ _ _ _ c.in-Err.ensures.part c.in-Err.ensures.told;
  cause = fault_of Named _ _ _ c.in-Err.ensures.cause;
  late = tt;
  sooner = tt;
  streams = let_out_by (sink_change g.O.Sink.written g.O.Sink.faults _ _) _ _ _ _ _ c.in-Err.ensures.streams;
}
