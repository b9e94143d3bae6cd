use Rattle.std.proofs.Common.{◌≡◌, ◌≤◌, ◌-◌}
use Rattle.pv_eval.specs.MachineSteps.{Fit}
use Rattle.pv_exec.specs.Answering.{outlet}
use Rattle.pv_exec.specs.Fits.{Runs}
use Rattle.pv_exec.specs.Works.{turn_due}
use Rattle.pv_exec.proofs.Streaming.{Streaming}
use Rattle.pv_exec.proofs.running.run_statements.Given as goal

abbrev pub invariant-statements : goal.invariant-statements
invariant-statements g l = record {
  streamed : Streaming l.unit (outlet (g.O.Sink.written l.fn.out) l.fn.hall (λ z. (goal.Watch-dyn g z).its_kind z.1) (λ z. (goal.Watch-dyn g z).its_wants z.1) (λ z. (goal.Watch-dyn g z).seen z.1)) (outlet (g.O.Sink.written l.out) l.hall (λ z. (goal.Watch-dyn g z).its_kind z.1) (λ z. (goal.Watch-dyn g z).its_wants z.1) (λ z. (goal.Watch-dyn g z).seen z.1)) l.bound l.written l.machine.moment.taken l.fn.doing l.doing l.tasks.items l.fn.machine l.machine;
  later : g.O.Sink.faults l.fn.out ≤ g.O.Sink.faults l.out;
  fit : Fit l.unit l.machine.started;
  runs : Runs l.unit l.tasks.items l.machine.started l.doing;
  due : turn_due l.machine.started l.doing ≡ 1;
}

abbrev pub decreases-statements : goal.decreases-statements
decreases-statements g l = l.bound - l.machine.moment.taken
