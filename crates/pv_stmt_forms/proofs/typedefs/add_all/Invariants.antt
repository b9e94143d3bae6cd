use Rattle.std.proofs.Common.{◌≡◌, ◌||◌, ℕ, drop, nat_eq}
use Rattle.indexmap.specs.IndexSet.{contains}
use Rattle.pv_stmt_forms.proofs.AddedNames.{any_named}
use Rattle.pv_stmt_forms.proofs.typedefs.add_all.Given as goal

abbrev pub invariant-loop-n : goal.invariant-loop-n
invariant-loop-n l = (m : ℕ) → (contains nat_eq l.types m || any_named l.unit.forest (drop l.n-index l.declarators) m) ≡ (contains nat_eq l.fn.types m || any_named l.unit.forest l.declarators m)
