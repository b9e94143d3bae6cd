-- A bridge: what the code that types statements has and answers.
use Rattle.std.specs.Prelude.{◌≡◌, ℕ, Bool, true, false, List, [], ◌∷◌, map, length, Option, Some, None}
use Rattle.pv_tree.specs.declared.nodes.NodeId.{NodeId}
use Rattle.pv_types.specs.Known.{Known, tree}
use Rattle.pv_typed.specs.Known.{Each}
use Rattle.pv_typed.specs.TypedTree.{TypedTree}
use Rattle.pv_typed.specs.TypedStatement.{TypedStatement}
use Rattle.pv_typed.specs.Tables.{Stored}
use Rattle.pv_typed.specs.NodeTrees.{expression_at, statement_at, IsExpression, IsStatement}
use Rattle.pv_check.specs.Raw.{Raw}
use Rattle.pv_check.specs.Open.{state_in, IsOpen, Goes}
use Rattle.pv_check.specs.State.{After}
use Rattle.pv_unit.specs.declared.plain.Place.{Place}
use Rattle.pv_unit.specs.Statements.{Around}

-- where a statement stands (6.8.6), with the tree of the type
abbrev pub around_in : Known → Place → Around
around_in m w = record { result = tree m w.result.0; breaks = w.breaks; continues = w.continues }

-- a typed expression, and the state after it
abbrev pub value_in : List (List ℕ) → Raw → Stored → NodeId → After TypedTree
value_in texts s m n = record { value = expression_at m n; state = state_in texts s m }

-- a typed statement (6.8), and the state after it
abbrev pub statement_after : List (List ℕ) → Raw → Stored → NodeId → After TypedStatement
statement_after texts s m n = record { value = statement_at m n; state = state_in texts s m }

-- a typed statement (6.8) as an answer
abbrev pub stated_if : List (List ℕ) → Raw → Stored → Option NodeId → Option (After TypedStatement)
stated_if texts s m None = None
stated_if texts s m (Some n) = Some (statement_after texts s m n)

-- statements (6.8) one after the other
abbrev pub statements_in : Stored → List NodeId → List TypedStatement
statements_in m ns = map (statement_at m) ns

-- items of a block (6.8.2p1), and the state after them
abbrev pub items_in : List (List ℕ) → Raw → Stored → List NodeId → After (List TypedStatement)
items_in texts s m ns = record { value = statements_in m ns; state = state_in texts s m }

-- items of a block (6.8.2p1) as an answer
abbrev pub items_if : List (List ℕ) → Raw → Stored → List NodeId → Bool → Option (After (List TypedStatement))
items_if texts s m ns false = None
items_if texts s m ns true = Some (items_in texts s m ns)

-- a part of a statement (6.8.5.3p2) that may be left out, as a list
abbrev pub optional_list : {A : Type 0} → Option A → List A
optional_list None = []
optional_list (Some x) = x ∷ []

-- an expression that may be left out (6.8.3p3, 6.8.5.3p2)
abbrev pub optional_in : Stored → Option NodeId → Option TypedTree
optional_in m None = None
optional_in m (Some n) = Some (expression_at m n)

-- an expression that may be left out (6.8.3p3, 6.8.5.3p2) as an answer
abbrev pub optional_if : List (List ℕ) → Raw → Stored → Option (Option NodeId) → Option (After (Option TypedTree))
optional_if texts s m None = None
optional_if texts s m (Some o) = Some (record { value = optional_in m o; state = state_in texts s m })

-- an expression that may be left out (6.8.3p3, 6.8.5.3p2) is in the tables
abbrev pub IsOptional : Stored → Option NodeId → Type 0
IsOptional m None = Unit {0}
IsOptional m (Some n) = IsExpression m n

-- statements (6.8) that are in the tables
abbrev pub AreStatements : Stored → List NodeId → Type 0
AreStatements m ns = Each (IsStatement m) ns

-- what typing a statement (6.8) does to scopes and tables: there are as many scopes as before (6.2.1p4)
pub record Moves (a : Stored) (s : Raw) (b : Stored) (t : Raw) : Type 0 where
  pub opened : IsOpen b t
  pub goes : Goes a b
  pub deep : length t.scopes ≡ length s.scopes

-- the same, where a statement (6.8) has an answer
abbrev pub MovesOn : Stored → Raw → Stored → Raw → Bool → Type 0
MovesOn a s b t false = Unit {0}
MovesOn a s b t true = Moves a s b t

-- statements (6.8) that are in the tables, where there is an answer
abbrev pub StatementsOn : Stored → List NodeId → Bool → Type 0
StatementsOn m ns false = Unit {0}
StatementsOn m ns true = AreStatements m ns
