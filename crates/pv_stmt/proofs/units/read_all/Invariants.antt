use Rattle.std.proofs.Common.{◌-◌, length, nat_eq}
use Rattle.indexmap.specs.IndexSet.{contains}
use Rattle.pv_stmt_forms.proofs.OuterSteps.{ReadSoFar}
use Rattle.pv_stmt.proofs.units.read_all.Given as goal

abbrev pub invariant-loop-declaration : goal.invariant-loop-declaration
invariant-loop-declaration l = ReadSoFar l.into (contains nat_eq l.types) l.t.tokens l.at

abbrev pub decreases-loop-declaration : goal.decreases-loop-declaration
decreases-loop-declaration l = length l.t.tokens - l.at
