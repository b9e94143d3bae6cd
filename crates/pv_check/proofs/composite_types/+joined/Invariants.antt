use Rattle.std.proofs.Common.{◌+◌, ◌-◌, ◌*◌, drop, length}
use Rattle.pv_check.proofs.Joining.{Joins}
use Rattle.pv_check.proofs.composite_types.+joined.Given as goal

abbrev pub decreases-joined : goal.decreases-joined
decreases-joined l = 3 * l.a.0 + 2

abbrev pub decreases-joined_function : goal.decreases-joined_function
decreases-joined_function l = 3 * l.bound + 1

abbrev pub decreases-joined_list : goal.decreases-joined_list
decreases-joined_list l = 3 * l.bound

abbrev pub invariant-joined_list-loop-i : goal.invariant-joined_list-loop-i
invariant-joined_list-loop-i l = Joins l.initial.types l.types l.bound l.left l.right l.list.items (drop l.i l.left) (drop l.i l.right)

abbrev pub decreases-joined_list-loop-i : goal.decreases-joined_list-loop-i
decreases-joined_list-loop-i l = length l.left - l.i
