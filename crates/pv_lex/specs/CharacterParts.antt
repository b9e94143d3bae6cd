-- A bridge: what functions answer that do a part of what Characters says.
use Rattle.std.specs.Prelude.{List, Some, ℕ, drop, None, Option, if◌then◌else◌, nat_eq}
use Rattle.pv_token.specs.Said.{as_char, Character}
use Rattle.pv_lex.specs.Bytes.{single_quote, begins}
use Rattle.pv_lex.specs.Pieces.{Piece, token}

-- The closing quote of a character constant (6.4.4.4p1).
abbrev pub closed_character : ℕ × List ℕ → Option Piece
closed_character x = if begins (λ b. nat_eq b single_quote) x.1 then Some (token (Character (as_char x.0)) (drop 1 x.1)) else None
