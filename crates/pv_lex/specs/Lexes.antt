-- The table of a source's tokens, with their names and literals.
use Rattle.std.specs.Prelude.{◌≡◌, ℕ, List, length}
use Rattle.pv_token.specs.Table.{Table, Tells}
use Rattle.pv_lex.specs.Pieces.{Piece, End}
use Rattle.pv_lex.specs.Stands.{stands}
use Rattle.pv_lex.specs.Rows.{Place, start, Row, tokens_among}

-- Pieces in a row make up the whole source (6.4p4), and the table has its tokens.
pub record Lexes (source : List ℕ) (t : Table) : Type 0 where
  pub pieces : List Piece
  pub last : Place
  pub row : Row (start source) pieces last
  pub whole : stands last.fresh last.text ≡ End
  pub tells : Tells t (tokens_among (length source) (start source) pieces)
