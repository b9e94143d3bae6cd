-- A bridge: what a function that reads several parts, or one that may be left out, answers, as what reading on lists gives.
use Rattle.std.specs.Prelude.{◌≡◌, ◌≤◌, ℕ, Bool, List, All, length, drop, Option, IfSome}
use Rattle.pv_token.specs.declared.token_table.Token.{Token}
use Rattle.pv_tree.specs.declared.nodes.NodeId.{NodeId}
use Rattle.pv_tree.specs.Syntax.{Tree, Trees, OptionalTree}
use Rattle.pv_tree.specs.Tables.{Tables, trees_of, optional_at, Is}

-- trees of a kind in a row, and the place behind them: what the code answers is what reading gives
pub record AreAnswered (u : Tables) (kind : Tree → Bool) (tokens : List Token) (nodes : List NodeId) (next : ℕ) (reading : Trees × List Token) : Type 0 where
  pub is : ◌≡◌ {A = Trees × List Token} (trees_of u.forest nodes, drop next tokens) reading
  pub there : All (λ n. Is u kind n) nodes
  pub place : next ≤ length tokens

-- a tree of a kind that may be left out, and the place behind it: what the code answers is what reading gives
pub record MayBeAnswered (u : Tables) (kind : Tree → Bool) (tokens : List Token) (node : Option NodeId) (next : ℕ) (reading : OptionalTree × List Token) : Type 0 where
  pub is : ◌≡◌ {A = OptionalTree × List Token} (optional_at u.forest node, drop next tokens) reading
  pub there : IfSome node (λ n. Is u kind n)
  pub place : next ≤ length tokens
