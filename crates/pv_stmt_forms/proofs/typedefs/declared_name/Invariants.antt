use Rattle.std.proofs.Common.{◌≡◌, ℕ}
use Rattle.pv_tree.specs.Tables.{declarator_at, is_declarator, Is}
use Rattle.pv_tree.specs.Units.{declares}
use Rattle.pv_stmt_forms.proofs.typedefs.declared_name.Given as goal

abbrev pub invariant-loop-name : goal.invariant-loop-name
invariant-loop-name l = record {
  there : Is l.unit is_declarator l.at;
  same : (m : ℕ) → declares (declarator_at l.unit.forest l.fn.declarator) m ≡ declares (declarator_at l.unit.forest l.at) m;
}

abbrev pub decreases-loop-name : goal.decreases-loop-name
decreases-loop-name l = l.at.0
