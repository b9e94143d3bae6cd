-- A bridge: what is given where a part of a declaration is read: the type names that a reader has, and the lists of parameters that are known.
use Rattle.std.specs.Prelude.{◌≡◌, ℕ, Option, Some, List, drop}
use Rattle.indexmap.specs.IndexSet.{IndexSet}
use Rattle.pv_token.specs.declared.token_table.Token.{Token}
use Rattle.pv_tree.specs.declared.nodes.NodeId.{NodeId}
use Rattle.pv_tree.specs.Spells.{Names}
use Rattle.pv_tree.specs.Syntax.{Absent}
use Rattle.pv_tree.specs.Tables.{Tables, is_declarator}
use Rattle.pv_tree.specs.TypeNames.{TypeMap, AreTied}
use Rattle.pv_tree.specs.Units.{depth_limit}
use Rattle.pv_expr_forms.specs.Known.{names_in}
use Rattle.pv_decl_forms.specs.Answers.{Answers}
use Rattle.pv_decl_forms.specs.Declarators.{parameters_behind}
use Rattle.pv_decl_forms.specs.Parts.{function_of}
use Rattle.pv_decl_forms.specs.Pieces.{Piece}
use Rattle.pv_decl_forms.specs.Reader.{readers}

-- a list of parameters from behind its `(` on, as an abstract declarator (6.7.6.3)
abbrev pub parameter_list : Names → (depth : ℕ) → List Token → Piece
parameter_list names depth ts = parameters_behind (function_of 0 Absent) (readers names depth) ts

-- the type names are tied to a unit, and each list that is known, or that there is none, is what reading gives
pub record AreGiven {S : Type 0} (lists : ℕ → Option (Option (NodeId × ℕ))) (typedefs : IndexSet ℕ S) (types : TypeMap) (u : Tables) (tokens : List Token) : Type 0 where
  pub tied : AreTied types u tokens
  pub read : (at : ℕ) (o : Option (NodeId × ℕ)) → lists at ≡ Some o
      → Answers u is_declarator tokens o (parameter_list (names_in typedefs types u tokens) depth_limit (drop at tokens))
