-- What it means that a piece is the longest that begins at its place.
use Rattle.std.specs.Prelude.{◌≡◌, ℕ, ◌<◌, ◌≤◌, Bool, List, [], ◌++◌, length}
use Rattle.pv_lex.specs.Pieces.{What, Piece, Here}
use Rattle.pv_lex.specs.Stands.{stands}
use Rattle.pv_lex.specs.Rows.{bytes_of}

-- These bytes alone are one piece, and the whole of it (6.4p4): they spell a byte of white space, a comment, a line marker or a token.
pub record IsSpelling (fresh : Bool) (bytes : List ℕ) : Type 0 where
  pub what : What
  pub alone : stands fresh bytes ≡ Here (record { what = what; after = [] })

-- A piece is the longest that begins at its place (6.4p4): its bytes and what is left make up the text, they alone spell the same, and no longer front of the text spells anything.
pub record IsLongest (fresh : Bool) (text : List ℕ) (x : Piece) : Type 0 where
  pub whole : bytes_of text x ++ x.after ≡ text
  pub some : 0 < length (bytes_of text x)
  pub alone : stands fresh (bytes_of text x) ≡ Here (record { what = x.what; after = [] })
  pub longest : (bytes rest : List ℕ) → text ≡ bytes ++ rest → IsSpelling fresh bytes → length bytes ≤ length (bytes_of text x)
