use Rattle.std.proofs.Common.{◌≡◌}
use Rattle.pv_typed.specs.NodeTrees.{statement_at, IsStatement}
use Rattle.pv_exec.specs.Labels.{is_target}
use Rattle.pv_exec.specs.Switches.{target}
use Rattle.pv_exec.proofs.switches.has_label.Given as goal

abbrev pub invariant-labels : goal.invariant-labels
invariant-labels l = record {
  there : IsStatement l.unit l.n;
  same : is_target (target l.label) (statement_at l.unit l.n) ≡ is_target (target l.label) (statement_at l.unit l.fn.n);
}

abbrev pub decreases-labels : goal.decreases-labels
decreases-labels l = l.n.0
