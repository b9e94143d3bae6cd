use Rattle.std.proofs.Common.{◌≡◌, ◌≤◌, ℕ, List, false, length, drop}
use Rattle.pv_typed.specs.NodeTrees.{statement_at, IsStatement}
use Rattle.pv_check.specs.Open.{state_of}
use Rattle.pv_unit.specs.Statements.{under}
use Rattle.pv_unit.specs.Stated.{Moves}
use Rattle.pv_unit.specs.Switching.{labels_of}
use Rattle.pv_unit.proofs.labels.under.Given as goal

abbrev pub invariant-loop-at : goal.invariant-loop-at
invariant-loop-at l =
    IsStatement l.into l.node × (l.at ≤ length l.labels) × (l.from ≤ l.at)
    × (statement_at l.into l.node ≡ under (labels_of (drop l.at l.labels)) (statement_at l.fn.into l.fn.body))
    × ((texts : List (List ℕ)) → state_of texts false l.s l.into ≡ state_of texts false l.s l.fn.into) × Moves l.fn.into l.s l.into l.s

abbrev pub decreases-loop-at : goal.decreases-loop-at
decreases-loop-at l = l.at
