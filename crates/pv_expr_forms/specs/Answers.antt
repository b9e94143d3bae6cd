-- A bridge: what a function of the reader answers, as what reading on lists gives.
use Rattle.std.specs.Prelude.{◌≡◌, ◌≤◌, ℕ, List, length, drop, Option, Some, None, MatchOption, Result, IfOk}
use Rattle.pv_token.specs.declared.token_table.Token.{Token}
use Rattle.pv_tree.specs.declared.nodes.NodeId.{NodeId}
use Rattle.pv_tree.specs.Tables.{Forest, Tables, expression_at, is_expression, Is}
use Rattle.pv_expr_forms.specs.Reader.{Read}

-- what is found with a place behind it, if anything is, is what reading on lists gives, and the place is among the tokens
abbrev pub IsFound : {A : Type 0} → List Token → Option (A × ℕ) → Option (A × List Token) → Type 0
IsFound tokens answer reading = MatchOption answer (reading ≡ None) (λ x. (reading ≡ Some (x.0, drop x.1 tokens)) × (x.1 ≤ length tokens))

-- the place that is found, if one is, is where reading on lists goes on (6.4.6), and it is among the tokens
abbrev pub IsBehind : List Token → Option ℕ → Option (List Token) → Type 0
IsBehind tokens answer reading = MatchOption answer (reading ≡ None) (λ next. (reading ≡ Some (drop next tokens)) × (next ≤ length tokens))

-- a node's number and a place, as a tree and the tokens from there
abbrev pub expression_and_rest : Forest → List Token → Option (NodeId × ℕ) → Read
expression_and_rest f tokens None = None
expression_and_rest f tokens (Some x) = Some (expression_at f x.0, drop x.1 tokens)

-- what is answered is an expression's node, and a place among the tokens
abbrev pub IsThere : Tables → List Token → Option (NodeId × ℕ) → Type 0
IsThere u tokens None = Unit {0}
IsThere u tokens (Some x) = Is u is_expression x.0 × (x.1 ≤ length tokens)

-- what the code answers is what reading on lists gives
pub record Answers (u : Tables) (tokens : List Token) (answer : Option (NodeId × ℕ)) (reading : Read) : Type 0 where
  pub is : expression_and_rest u.forest tokens answer ≡ reading
  pub there : IsThere u tokens answer

-- the same of what reading gives from a place on, unless memory is wanting
abbrev pub AnswersAt : {E : Type 0} → Tables → List Token → (at : ℕ) → Result (Option (NodeId × ℕ)) E → (List Token → Read) → Type 0
AnswersAt u tokens at result reading = IfOk result (λ r. Answers u tokens r (reading (drop at tokens)))
