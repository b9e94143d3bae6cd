use Rattle.std.proofs.Common.{◌≤◌, length}
use Rattle.pv_decl.proofs.type_table.closes_soon.Given as goal

abbrev pub invariant-loop-left : goal.invariant-loop-left
invariant-loop-left l = l.next ≤ length l.t.tokens

abbrev pub decreases-loop-left : goal.decreases-loop-left
decreases-loop-left l = l.left
