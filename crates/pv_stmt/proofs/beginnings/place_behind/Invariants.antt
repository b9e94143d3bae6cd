use Rattle.std.proofs.Common.{◌-◌, length, nat_eq}
use Rattle.indexmap.specs.IndexSet.{contains}
use Rattle.pv_stmt.proofs.Rows.{FirstSoFar}
use Rattle.pv_stmt.proofs.beginnings.place_behind.Given as goal

abbrev pub invariant-loop-alloc : goal.invariant-loop-alloc
invariant-loop-alloc l = FirstSoFar l.into (contains nat_eq l.types) l.t.tokens l.at l.count

abbrev pub decreases-loop-alloc : goal.decreases-loop-alloc
decreases-loop-alloc l = length l.t.tokens - l.at
