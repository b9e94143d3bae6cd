-- A bridge: what functions answer that do a part of what Comes says.
use Rattle.std.specs.Prelude.{[], slice_index_or, ℕ, List}
use Rattle.pv_token.specs.Table.{Table}

-- 6.4.2.1: the text of a name of the tokens
abbrev pub token_name : Table → ℕ → List ℕ
token_name tokens n = slice_index_or tokens.names n []
