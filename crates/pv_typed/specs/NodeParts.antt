-- A bridge: what functions answer that do a part of what Nodes says.
use Rattle.std.specs.Prelude.{List, ℕ, slice_index_or}
use Rattle.pv_typed.specs.Nodes.{OfStatement, Tree}
use Rattle.pv_typed.specs.TypedStatement.{Empty}

-- the tree of a number
abbrev pub at : List Tree → ℕ → Tree
at ts i = slice_index_or ts i (OfStatement (Empty 0))
