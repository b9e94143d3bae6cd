use Rattle.std.proofs.Common.{◌≡◌, drop}
use Rattle.pv_stmt_forms.proofs.AddedNames.{any_typedef}
use Rattle.pv_stmt_forms.proofs.typedefs.has_typedef.Given as goal

abbrev pub invariant-loop-n : goal.invariant-loop-n
invariant-loop-n l = any_typedef l.unit.forest (drop l.n-index l.specifiers) ≡ any_typedef l.unit.forest l.specifiers
