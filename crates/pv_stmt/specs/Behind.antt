-- The place behind the first external declarations of some tokens (6.9).
use Rattle.std.specs.Prelude.{◌≡◌, ◌≤◌, ℕ, List, length, drop}
use Rattle.pv_token.specs.declared.token_table.Token.{Token}
use Rattle.pv_tree.specs.Syntax.{DeclarationTree}
use Rattle.pv_tree.specs.Units.{no_types, SpellExternals}

-- so many external declarations (6.9p1) spell all tokens before a place, which counts tokens from 0
pub record IsBehind (tokens : List Token) (n place : ℕ) : Type 0 where
  pub within : place ≤ length tokens
  pub externals : List DeclarationTree
  pub count : length externals ≡ n
  pub spelled : SpellExternals no_types externals tokens (drop place tokens)

-- there is such a place, behind so many external declarations (6.9p1)
pub record SomeBehind (tokens : List Token) (n : ℕ) : Type 0 where
  pub place : ℕ
  pub is : IsBehind tokens n place
