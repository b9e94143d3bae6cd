-- Comments.
use Rattle.std.specs.Prelude.{ℕ, ◌-◌, if◌then◌else◌, List, [], ◌∷◌, drop, Option, Some, None, option_map, nat_eq, codes}
use Rattle.std.specs.List.{starts_with}
use Rattle.pv_lex.specs.Bytes.{line_feeds}
use Rattle.pv_lex.specs.Pieces.{Comment, Piece}

-- What is left behind the first `*/` (6.4.9p1).
unfoldable pub behind_close : List ℕ → Option (List ℕ)
behind_close [] = None
behind_close (b ∷ bs) = if starts_with nat_eq (b ∷ bs) (codes "*/") then Some (drop 1 bs) else behind_close bs

-- A comment, behind its `/*`, with the line feeds in it (6.4.9p1, 6.10.4p2). It may hold any bytes.
unfoldable pub block_comment : List ℕ → Option Piece
block_comment text = option_map (λ after. record { what = Comment (line_feeds text - line_feeds after); after = after }) (behind_close text)
