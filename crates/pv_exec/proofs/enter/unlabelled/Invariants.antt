use Rattle.std.proofs.Common.{◌≡◌}
use Rattle.pv_eval.specs.States.{Setting, State}
use Rattle.pv_exec.specs.OfRuns.{ex}
use Rattle.pv_exec.specs.Flows.{Below}
use Rattle.pv_typed.specs.NodeTrees.{statement_at, IsStatement}
use Rattle.pv_exec.proofs.enter.unlabelled.Given as goal

abbrev pub invariant-labels : goal.invariant-labels
invariant-labels l = record {
  same : (b : Setting) (w : Below) (s : State) → ex b w (statement_at l.unit l.fn.n) s ≡ ex b w (statement_at l.unit l.n) s;
  there : IsStatement l.unit l.n;
}

abbrev pub decreases-labels : goal.decreases-labels
decreases-labels l = l.n.0
