-- A bridge: what the readers of external declarations answer, as what reading on lists gives (6.9).
use Rattle.std.specs.Prelude.{◌≡◌, ℕ, Bool, List, Option, drop, option_map}
use Rattle.pv_token.specs.declared.token_table.Token.{Token}
use Rattle.pv_tree.specs.declared.nodes.ListId.{ListId}
use Rattle.pv_tree.specs.declared.nodes.NodeId.{NodeId}
use Rattle.pv_tree.specs.Syntax.{DeclaratorTree, Function, OfDeclaration, Trees, is_external}
use Rattle.pv_tree.specs.Tables.{Forest, Tables, as_statement, declarator_at, trees_at}
use Rattle.pv_tree.specs.TypeNames.{type_seen}
use Rattle.pv_decl_forms.specs.Answers.{IsThere}
use Rattle.pv_decl_forms.specs.Pieces.{Piece}
use Rattle.pv_stmt_forms.specs.Externals.{external_at}

-- a function definition, once its block is read (6.9.1)
abbrev pub function_with : (line : ℕ) → (specs : Trees) → DeclaratorTree → Piece → Piece
function_with line specs d block = option_map (λ x. (OfDeclaration (Function line specs d (as_statement x.0)), x.1)) block

-- the same, of nodes (6.9.1)
abbrev pub function_at : Forest → (line : ℕ) → (specs : ListId) → (declarator : NodeId) → Piece → Piece
function_at f line specs d block = function_with line (trees_at f specs) (declarator_at f d) block

-- the external declaration at a place of some tokens (6.9p1), or that there is none
pub record IsExternalAt (u : Tables) (is_type : ℕ → Bool) (tokens : List Token) (at : ℕ) (answer : Option (NodeId × ℕ)) : Type 0 where
  pub is : type_seen u.forest tokens answer ≡ external_at is_type (drop at tokens)
  pub there : IsThere u is_external tokens answer
