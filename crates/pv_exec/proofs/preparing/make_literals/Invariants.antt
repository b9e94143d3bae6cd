use Rattle.std.proofs.Common.{◌≡◌, ◌-◌}
use Rattle.std.specs.Prelude.{length, drop}
use Rattle.pv_eval.specs.Moments.{Always, state_of, Stays}
use Rattle.pv_exec.specs.Lists.{make_literals}
use Rattle.pv_exec.proofs.preparing.make_literals.Given as goal

abbrev pub invariant-literals : goal.invariant-literals
invariant-literals l = record {
  made : Always l.unit l.fn.machine.moment (λ b out es. make_literals b l.literals (state_of l.fn.machine.moment out es) ≡ make_literals b (drop l.i l.literals) (state_of l.machine.moment out es));
  started : l.machine.started ≡ l.fn.machine.started;
  stays : Stays l.fn.machine.moment l.machine.moment;
}

abbrev pub decreases-literals : goal.decreases-literals
decreases-literals l = length l.literals - l.i
