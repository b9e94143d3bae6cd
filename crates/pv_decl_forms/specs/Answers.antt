-- A bridge: what a function of the reader answers, as what reading on lists gives.
use Rattle.std.specs.Prelude.{◌≡◌, ◌≤◌, ℕ, Bool, List, length, drop, Option, Some, None, Result, IfOk}
use Rattle.pv_token.specs.declared.token_table.Token.{Token}
use Rattle.pv_tree.specs.declared.nodes.NodeId.{NodeId}
use Rattle.pv_tree.specs.Syntax.{Tree}
use Rattle.pv_tree.specs.Tables.{Forest, Tables, tree_at, Is}
use Rattle.pv_decl_forms.specs.Pieces.{Piece}

-- a node's number and a place, as a tree (6.7) and the tokens from there
abbrev pub piece_from : Forest → List Token → Option (NodeId × ℕ) → Piece
piece_from f tokens None = None
piece_from f tokens (Some x) = Some (tree_at f x.0, drop x.1 tokens)

-- what is answered is a node of its kind, and a place among the tokens
abbrev pub IsThere : Tables → (kind : Tree → Bool) → List Token → Option (NodeId × ℕ) → Type 0
IsThere u kind tokens None = Unit {0}
IsThere u kind tokens (Some x) = Is u kind x.0 × (x.1 ≤ length tokens)

-- what the code answers is what reading on lists gives
pub record Answers (u : Tables) (kind : Tree → Bool) (tokens : List Token) (answer : Option (NodeId × ℕ)) (reading : Piece) : Type 0 where
  pub is : piece_from u.forest tokens answer ≡ reading
  pub there : IsThere u kind tokens answer

-- the same of what reading gives from a place on, unless memory is wanting
abbrev pub AnswersAt : {E : Type 0} → Tables → (kind : Tree → Bool) → List Token → (at : ℕ) → Result (Option (NodeId × ℕ)) E → (List Token → Piece) → Type 0
AnswersAt u kind tokens at result reading = IfOk result (λ r. Answers u kind tokens r (reading (drop at tokens)))
