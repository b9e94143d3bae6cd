use Rattle.std.proofs.Common.{refl}
use Rattle.pv_serve.specs.Outside.{sink_change}
use Rattle.pv_serve.proofs.RunLemmas.{check_judged, layout_judged, memory_cut_unit, memory_fault, task_judged, task_cut, run_task_judged, run_task_cut, task_bound}
use Rattle.pv_serve.proofs.tasks.judge_unit.Goals as goal

pub run_watched-requires : goal.run_watched-requires
run_watched-requires g c = record { fit = c.requires.fit; bound = task_bound _ _ c.in-Run.is c.requires.task }

pub run_settled-requires : goal.run_settled-requires
run_settled-requires g c = record { fit = c.requires.fit; bound = task_bound _ _ c.in-Settle.is c.requires.task }

pub laid_out-requires : goal.laid_out-requires
laid_out-requires g c = c.requires.fit

pub returns-in-Run : goal.returns-in-Run
returns-in-Run g c = record {
  judged = run_task_judged _ _ _ _ _ _ _ _ _ c.in-Run.is c.run_watched.ensures.judged;
  part = run_task_cut _ _ _ _ _ _ (sink_change g.O.Sink.written g.O.Sink.faults _ _) _ _ c.in-Run.is c.run_watched.ensures.part;
  cause = c.run_watched.ensures.cause;
}

pub returns-in-Settle : goal.returns-in-Settle
returns-in-Settle g c = record {
  judged = task_judged _ _ _ _ _ _ _ _ c.in-Settle.is (c.run_settled.ensures.judged _ refl);
  part = task_cut _ _ _ _ _ (sink_change g.O.Sink.written g.O.Sink.faults _ _) _ _ c.in-Settle.is (c.run_settled.ensures.part _ refl);
  cause = c.run_settled.ensures.cause;
}

pub returns-in-Check : goal.returns-in-Check
returns-in-Check g c = record {
  judged = check_judged _ _ _ _ _ _ _ (refl, refl) c.in-Check.is c.checked.ensures.described;
  part = memory_cut_unit _ _ _ _ (sink_change g.O.Sink.written g.O.Sink.faults _ _) _ _ (refl, refl) c.checked.ensures.memory;
  cause = memory_fault _ _ _ c.checked.ensures.memory;
}

pub returns-in-Layout : goal.returns-in-Layout
returns-in-Layout g c = record {
  judged = layout_judged _ _ _ _ _ _ _ (refl, refl) c.in-Layout.is c.laid_out.ensures.described;
  part = memory_cut_unit _ _ _ _ (sink_change g.O.Sink.written g.O.Sink.faults _ _) _ _ (refl, refl) c.laid_out.ensures.memory;
  cause = memory_fault _ _ _ c.laid_out.ensures.memory;
}
