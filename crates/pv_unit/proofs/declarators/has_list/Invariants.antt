use Rattle.std.proofs.Common.{◌≡◌, false, take}
use Rattle.pv_tree.specs.Tables.{trees_of}
use Rattle.pv_unit.specs.Declarations.{has_list}
use Rattle.pv_unit.proofs.declarators.has_list.Given as goal

abbrev pub invariant-loop-n : goal.invariant-loop-n
invariant-loop-n l = has_list (trees_of l.u.forest (take l.n-index l.nodes)) ≡ false
