use Rattle.std.proofs.Common.{◌≡◌, ◌-◌, ◌≤◌, length, map, drop}
use Rattle.pv_types.specs.Known.{trees, tys_in}
use Rattle.pv_typed.specs.Known.{Each, AreKnown}
use Rattle.pv_typed.specs.NodeTrees.{expression_at, IsExpression}
use Rattle.pv_check.specs.Calls.{passed_arguments}
use Rattle.pv_check.specs.Kept.{Kept}
use Rattle.pv_check.proofs.PassingRows.{joined}
use Rattle.pv_check.proofs.calls.passed.Given as goal

abbrev pub invariant-loop-i : goal.invariant-loop-i
invariant-loop-i l =
    (l.i ≤ length l.args) × AreKnown l.into × Kept l.initial.into l.into × Each (IsExpression l.into) l.list.items
    × (joined (map (expression_at l.into) l.list.items) (passed_arguments (tys_in (trees l.initial.into.known) (drop l.i l.types)) l.variadic (map (expression_at l.initial.into) (drop l.i l.args)))
    ≡ passed_arguments (tys_in (trees l.initial.into.known) l.types) l.variadic (map (expression_at l.initial.into) l.args))

abbrev pub decreases-loop-i : goal.decreases-loop-i
decreases-loop-i l = length l.args - l.i
