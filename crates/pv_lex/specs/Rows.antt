-- The cut of a whole source into pieces in a row.
use Rattle.std.specs.Prelude.{◌≡◌, ℕ, ◌+◌, ◌-◌, Bool, true, false, cond, ◌&&◌, ◌||◌, List, [], ◌∷◌, ◌++◌, length, take, nat_eq}
use Rattle.pv_lex.specs.declared.bytes.Class.TheVariants as class
use Rattle.pv_lex.specs.Bytes.{is_in, line_feed}
use Rattle.pv_token.specs.Said.{Spelt}
use Rattle.pv_lex.specs.Pieces.{What, White, Comment, Marker, Spelling, Piece, Here}
use Rattle.pv_lex.specs.Stands.{stands}

-- A place: what is left of the source, the number of its line (6.10.4p2), and whether only spaces and tabs stand before it on the line (6.10p2).
pub record Place : Type 0 where
  pub text : List ℕ
  pub line : ℕ
  pub fresh : Bool

-- The first place of a source, in line 1 (6.10.4p2).
abbrev pub start : List ℕ → Place
start source = record { text = source; line = 1; fresh = true }

-- The line behind a piece (6.10.4p2 and p3): a line feed adds one, and a marker sets the number of the next line.
abbrev pub line_behind : What → ℕ → ℕ
line_behind (White b) line = cond (nat_eq b line_feed) (line + 1) line
line_behind (Comment n) line = line + n
line_behind (Marker n) line = n
line_behind (Spelling s) line = line

-- Only spaces and tabs stand before the place behind a piece, on its line (6.10p2).
abbrev pub fresh_behind : What → Bool → Bool
fresh_behind (White b) fresh = nat_eq b line_feed || (fresh && is_in class.Blank b)
fresh_behind (Marker n) fresh = true
fresh_behind _ fresh = false

-- The place behind a piece (6.4p4).
abbrev pub behind_piece : Piece → Place → Place
behind_piece x p = record { text = x.after; line = line_behind x.what p.line; fresh = fresh_behind x.what p.fresh }

-- Pieces in a row lead from one place to another (6.4p4): each stands where the one before it ends.
abbrev pub Row : Place → List Piece → Place → Type 0
Row p [] q = p ≡ q
Row p (x ∷ xs) q = (stands p.fresh p.text ≡ Here x) × Row (behind_piece x p) xs q

-- The bytes of a piece: what stood before it without what is left behind it (6.4p4).
abbrev pub bytes_of : List ℕ → Piece → List ℕ
bytes_of text x = take (length text - length x.after) text

-- The bytes of pieces in a row, one behind another (6.4p4).
abbrev pub bytes_of_row : List ℕ → List Piece → List ℕ
bytes_of_row text [] = []
bytes_of_row text (x ∷ xs) = bytes_of text x ++ bytes_of_row x.after xs

-- The token that a piece is, if it is one (6.4p1 and p3): white space, comments and markers are none.
abbrev pub spelt_here : (start line : ℕ) → What → List Spelt
spelt_here start line (Spelling s) = record { said = s; start = start; line = line } ∷ []
spelt_here start line _ = []

-- The tokens among pieces in a row, in a source of this length (6.4p1).
abbrev pub tokens_among : (whole : ℕ) → Place → List Piece → List Spelt
tokens_among whole p [] = []
tokens_among whole p (x ∷ xs) = spelt_here (whole - length p.text) p.line x.what ++ tokens_among whole (behind_piece x p) xs
