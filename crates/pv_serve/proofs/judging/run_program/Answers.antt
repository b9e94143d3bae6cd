use Rattle.pv_serve.specs.Outside.{sink_change}
use Rattle.pv_serve.proofs.LoadLemmas.{ran_outcome, left_unfinished, let_out_streamed, late_program, sooner_program}
use Rattle.pv_serve.proofs.judging.run_program.Goals as goal

pub run_unit-requires : goal.run_unit-requires
run_unit-requires g c = c.requires

pub returns-in-Ok : goal.returns-in-Ok
returns-in-Ok g c = record {
  judged = λ source script is. ran_outcome source script _ _ _ _ _ _ _ _ _ is c.in-Ok.ensures.ran;
  part = λ source script is. tt;
  cause = tt;
  late = λ source script is. late_program source script _ _ _ _ _ _ _ _ _ _ is c.in-Ok.ensures.ran c.in-Ok.ensures.late;
  sooner = λ source script is. sooner_program source script _ _ _ _ _ c.in-Ok.named.ran is c.in-Ok.ensures.sooner;
  streams = λ source script is. tt;
}

pub returns-in-Err : goal.returns-in-Err
returns-in-Err g c = record {
  judged = λ source script is. tt;
  part = λ source script is. left_unfinished source script _ _ _ _ _ (sink_change g.O.Sink.written g.O.Sink.faults _ _) _ _ is c.in-Err.ensures.left;
  cause = c.in-Err.ensures.cause;
  late = λ source script is. tt;
  sooner = λ source script is. tt;
  streams = λ source script is. let_out_streamed source script _ _ _ _ _ (sink_change g.O.Sink.written g.O.Sink.faults _ _) _ _ is c.in-Err.ensures.streams;
}
