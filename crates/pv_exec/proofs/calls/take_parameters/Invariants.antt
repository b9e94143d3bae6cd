use Rattle.std.proofs.Common.{◌≡◌, ◌-◌}
use Rattle.std.specs.Prelude.{length, drop, map}
use Rattle.pv_world.specs.Coming.{worth_of}
use Rattle.pv_eval.specs.Moments.{Always, state_of, Stays}
use Rattle.pv_exec.specs.OfRuns.{take_params}
use Rattle.pv_exec.proofs.calls.take_parameters.Given as goal

abbrev pub invariant-parameters : goal.invariant-parameters
invariant-parameters l = record {
  made : Always l.unit l.fn.machine.moment (λ b out es. take_params b l.line l.params (map worth_of l.arguments) (state_of l.fn.machine.moment out es) ≡ take_params b l.line (drop l.i l.params) (drop l.i (map worth_of l.arguments)) (state_of l.machine.moment out es));
  started : l.machine.started ≡ l.fn.machine.started;
  stays : Stays l.fn.machine.moment l.machine.moment;
}

abbrev pub decreases-parameters : goal.decreases-parameters
decreases-parameters l = length l.params - l.i
