use Rattle.std.proofs.Common.{◌≡◌, ◌-◌}
use Rattle.std.specs.Prelude.{length, drop}
use Rattle.pv_eval.specs.Moments.{Always, state_of, Stays}
use Rattle.pv_exec.specs.Lists.{make_functions}
use Rattle.pv_exec.proofs.preparing.make_functions.Given as goal

abbrev pub invariant-functions : goal.invariant-functions
invariant-functions l = record {
  made : Always l.unit l.fn.machine.moment (λ b out es. make_functions b l.functions (state_of l.fn.machine.moment out es) ≡ make_functions b (drop l.i l.functions) (state_of l.machine.moment out es));
  started : l.machine.started ≡ l.fn.machine.started;
  stays : Stays l.fn.machine.moment l.machine.moment;
}

abbrev pub decreases-functions : goal.decreases-functions
decreases-functions l = length l.functions - l.i
