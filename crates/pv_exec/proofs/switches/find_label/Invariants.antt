use Rattle.std.proofs.Common.{◌≡◌, ◌-◌, ◌≤◌, length}
use Rattle.pv_eval.specs.States.{Setting, State}
use Rattle.pv_exec.specs.Flows.{Below}
use Rattle.pv_exec.specs.OfRuns.{exs_at}
use Rattle.pv_exec.specs.Switches.{target, some_target}
use Rattle.pv_exec.specs.Tasks.{statements_from}
use Rattle.pv_exec.proofs.switches.find_label.Given as goal

abbrev pub invariant-items : goal.invariant-items
invariant-items l = record {
  within : l.i ≤ length l.items;
  some : some_target (target l.label) (statements_from l.unit l.fn.l 0) ≡ some_target (target l.label) (statements_from l.unit l.fn.l l.i);
  from : (b : Setting) (w : Below) (s : State) → exs_at b w (target l.label) (statements_from l.unit l.fn.l 0) s ≡ exs_at b w (target l.label) (statements_from l.unit l.fn.l l.i) s;
}

abbrev pub decreases-items : goal.decreases-items
decreases-items l = length l.items - l.i
