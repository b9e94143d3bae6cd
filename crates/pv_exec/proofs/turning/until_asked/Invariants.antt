use Rattle.std.proofs.Common.{◌≡◌, length}
use Rattle.pv_eval.specs.Moments.{Always, state_of}
use Rattle.pv_eval.specs.States.{Res}
use Rattle.pv_eval.specs.MachineSteps.{Fit, KeepsSetting}
use Rattle.pv_exec.specs.Tasks.{Reached}
use Rattle.pv_exec.specs.Works.{Holds}
use Rattle.pv_exec.specs.Fits.{Runs}
use Rattle.pv_exec.specs.Pace.{doing_ops}
use Rattle.pv_exec.proofs.turning.until_asked.Given as goal

abbrev pub invariant-operations : goal.invariant-operations
invariant-operations l = record {
  held : Always l.unit l.fn.machine.moment (λ b out es. (all : Res Reached) → Holds b l.unit all l.fn.tasks.items l.fn.machine.started l.fn.doing (state_of l.fn.machine.moment out es) → Holds b l.unit all l.tasks.items l.machine.started l.doing (state_of l.machine.moment out es));
  setting : KeepsSetting l.fn.machine.moment l.machine.moment;
  taken : l.machine.moment.taken ≡ l.fn.machine.moment.taken;
  fit : Fit l.unit l.machine.started;
  runs : Runs l.unit l.tasks.items l.machine.started l.doing;
}

abbrev pub decreases-operations : goal.decreases-operations
decreases-operations l = doing_ops l.machine.started l.doing (length l.tasks.items)
