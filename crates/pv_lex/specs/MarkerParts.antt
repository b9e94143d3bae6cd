-- A bridge: what functions answer that do a part of what Markers says.
use Rattle.std.specs.Prelude.{ℕ, ◌&&◌, List, if◌then◌else◌, Some, nat_le, length, None, Option, drop}
use Rattle.pv_lex.specs.Pieces.{Marker, Piece, ◌>>=◌, Here, token, Stand, Bad}
use Rattle.pv_lex.specs.Constants.{value_from}
use Rattle.pv_lex.specs.Markers.{some_of}
use Rattle.pv_lex.specs.declared.bytes.Class.TheVariants as class
use Rattle.pv_lex.specs.declared.pieces.Fault.TheVariants as fault
use Rattle.pv_token.specs.declared.marks.Mark.{Mark}
use Rattle.pv_token.specs.Said.{Punctuator}
use Rattle.std.specs.Option.{option_map_or}

-- The marker of these digits, at most ten of them: a line's number is at most 2147483647 (6.10.4p3), and may be 0 here.
abbrev pub marker_piece : List ℕ → List ℕ → Option Piece
marker_piece digits after =
    if nat_le (length digits) 10 && nat_le (value_from 10 0 digits) 2147483647 then Some (record { what = Marker (value_from 10 0 digits); after = after }) else None

-- A flag: white space and then a number (6.10p5).
abbrev pub group_at : List ℕ → Option (List ℕ × List ℕ)
group_at text = some_of class.Blank text >>= λ a. some_of class.Digit a.1

-- The punctuator of a row, or the fault that no token begins here (6.4p1: no other byte begins one).
abbrev pub mark_row : List ℕ → Option (List ℕ × Mark) → Stand
mark_row text r = option_map_or (λ (r : List ℕ × Mark). Here (token (Punctuator r.1) (drop (length r.0) text))) r (Bad fault.BadByte)
