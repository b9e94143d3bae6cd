use Rattle.std.proofs.Common.{◌≡◌, ◌≤◌, ◌+◌, ◌⊎◌, length, nat_eq}
use Rattle.std.specs.Prelude.{min}
use Rattle.indexmap.specs.IndexSet.{contains}
use Rattle.pv_tree.specs.Tables.{Extends}
use Rattle.pv_tree.specs.Units.{depth_limit}
use Rattle.pv_decl.specs.Filled.{list_map}
use Rattle.pv_decl.specs.NameTables.{type_map}
use Rattle.pv_decl_forms.specs.Givens.{AreGiven}
use Rattle.pv_decl.proofs.Filling.{IsFilled}
use Rattle.pv_decl.proofs.type_table.type_names.Given as goal

abbrev pub invariant-loop-at : goal.invariant-loop-at
invariant-loop-at l =
    let tokens = l.t.tokens in
    record {
      filled : IsFilled (contains nat_eq l.types) l.into tokens depth_limit l.names.to l.names.found l.at;
      given : AreGiven (list_map l.lists) l.types (type_map l.names) l.into tokens;
      count : l.at + length l.lists.found ≤ l.lists.to;
      same : l.lists.to ≡ l.names.to;
      keeps : Extends l.fn.into l.into;
      low : (l.from ≤ l.at) ⊎ (l.names.to ≤ l.at);
      cut : l.names.to ≡ min l.fn.to (length tokens);
    }

abbrev pub decreases-loop-at : goal.decreases-loop-at
decreases-loop-at l = l.at
