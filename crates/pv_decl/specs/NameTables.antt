-- A bridge: a table of the type names that stand in parentheses (6.5.3p1, 6.5.4p1).
use Rattle.std.specs.Prelude.{◌≡◌, ◌≤◌, ◌<◌, ℕ, zero, suc, ◌-◌, nat_le, Bool, true, false, List, [], ◌∷◌, ◌++◌, drop, Option, None, if◌then◌else◌, slice_index_or}
use Rattle.pv_token.specs.declared.token_table.Token.{Token}
use Rattle.pv_tree.specs.declared.nodes.NodeId.{NodeId}
use Rattle.pv_tree.specs.TypeNames.{TypeMap}
use Rattle.pv_expr_forms.specs.Reader.{is_open}

-- what is found at each place before one, where the list begins with the last
abbrev pub entry_found : {A : Type 0} (to : ℕ) → List (Option A) → ℕ → Option A
entry_found to found at = if nat_le to at then None else slice_index_or found (to - 1 - at) None

-- what a table has: the place behind its last one, and the type name (6.7.7) that begins at each place, from the last back to the first
pub record NameTable : Type 0 where
  pub to : ℕ
  pub found : List (Option (NodeId × ℕ))

-- the type name (6.7.7) that it has at each place
abbrev pub type_map : NameTable → TypeMap
type_map table at = entry_found table.to table.found at

-- no type names (6.7.7), before a place
abbrev pub no_names : (to : ℕ) → NameTable
no_names to = record { to = to; found = [] }

-- one place more, before the others: the type name (6.7.7) that begins there, if any
abbrev pub with_name : NameTable → Option (NodeId × ℕ) → NameTable
with_name table x = record { to = table.to; found = table.found ++ (x ∷ []) }

-- `(` is the next token (6.4.6)
abbrev pub opens : List Token → Bool
opens [] = false
opens (t ∷ ts) = is_open t.kind

-- `(` is the token before a place (6.5.3p1, 6.5.4p1: where alone a type name begins within an expression)
abbrev pub is_behind_open : List Token → (at : ℕ) → Bool
is_behind_open tokens zero = false
is_behind_open tokens (suc at) = opens (drop at tokens)

-- so it is at each place from one to before another, behind a `(` (6.5.3p1, 6.5.4p1)
abbrev pub EachBehindOpen : List Token → (from to : ℕ) → (Holds : (at : ℕ) → Type 0) → Type 0
EachBehindOpen tokens from to Holds = (at : ℕ) → from ≤ at → at < to → is_behind_open tokens at ≡ true → Holds at
