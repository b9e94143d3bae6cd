use Rattle.std.proofs.Common.{◌≡◌, ◌-◌, length}
use Rattle.pv_eval.specs.Moments.{Always, state_of, Stays}
use Rattle.pv_exec.specs.Flows.{Below}
use Rattle.pv_exec.specs.OfRuns.{exs}
use Rattle.pv_exec.specs.Tasks.{statements_from}
use Rattle.pv_exec.proofs.lists.next_item.Given as goal

abbrev pub invariant-items : goal.invariant-items
invariant-items l = record {
  passed : Always l.unit l.fn.machine.moment (λ b out es. (w : Below) → exs b w (statements_from l.unit l.fn.l l.fn.i) (state_of l.fn.machine.moment out es) ≡ exs b w (statements_from l.unit l.fn.l l.i) (state_of l.machine.moment out es));
  started : l.machine.started ≡ l.fn.machine.started;
  stays : Stays l.fn.machine.moment l.machine.moment;
}

abbrev pub decreases-items : goal.decreases-items
decreases-items l = length l.items - l.i
