use Rattle.std.proofs.Common.{◌≡◌, ◌-◌}
use Rattle.std.specs.Prelude.{length, drop}
use Rattle.pv_eval.specs.Moments.{Always, state_of, Stays}
use Rattle.pv_exec.specs.OfRuns.{end_all}
use Rattle.pv_exec.proofs.blocks.end_each.Given as goal

abbrev pub invariant-objects : goal.invariant-objects
invariant-objects l = record {
  made : Always l.unit l.fn.machine.moment (λ b out es. end_all b l.objects (state_of l.fn.machine.moment out es) ≡ end_all b (drop l.i l.objects) (state_of l.machine.moment out es));
  started : l.machine.started ≡ l.fn.machine.started;
  stays : Stays l.fn.machine.moment l.machine.moment;
}

abbrev pub decreases-objects : goal.decreases-objects
decreases-objects l = length l.objects - l.i
