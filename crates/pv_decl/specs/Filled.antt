-- A bridge: what a table that is filled from the last place back has at a place, as what reading on lists gives.
use Rattle.std.specs.Prelude.{ℕ, List, drop, Option, None, if◌then◌else◌}
use Rattle.pv_token.specs.declared.token_table.Token.{Token}
use Rattle.pv_tree.specs.declared.nodes.NodeId.{NodeId}
use Rattle.pv_tree.specs.Spells.{Names}
use Rattle.pv_decl.specs.declared.lists.ParameterLists.{ParameterLists}
use Rattle.pv_decl.specs.NameTables.{entry_found, is_behind_open}
use Rattle.pv_decl_forms.specs.Pieces.{Piece}
use Rattle.pv_decl_forms.specs.Reader.{type_name}

-- what is known of the list of parameters (6.7.6.3) at each place
abbrev pub list_map : ParameterLists → ℕ → Option (Option (NodeId × ℕ))
list_map lists at = entry_found lists.to lists.found at

-- the type name (6.7.7) at a place, if `(` is before it
unfoldable pub entry : Names → (depth : ℕ) → List Token → (at : ℕ) → Piece
entry names depth tokens at = if is_behind_open tokens at then type_name names depth (drop at tokens) else None
