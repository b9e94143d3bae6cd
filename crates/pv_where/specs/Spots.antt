-- The file and the line of a place, by the line markers before it (6.10.4).
use Rattle.std.specs.Prelude.{ℕ, zero, suc, ◌+◌, ◌-◌, if◌then◌else◌, false, List, [], ◌∷◌, length, take, fold, Option, Some, None, nat_eq, nat_le}
use Rattle.std.specs.Option.{option_map_or}
use Rattle.pv_lex.specs.Bytes.{double_quote, line_feeds}
use Rattle.pv_lex.specs.Pieces.{What, White, Comment, Marker, Spelling, Piece, Stand, End, Bad, Here}
use Rattle.pv_lex.specs.Markers.{behind_name}
use Rattle.pv_lex.specs.Stands.{stands}
use Rattle.pv_lex.specs.Rows.{Place, start, behind_piece}

-- 6.10.4: a place of a source, and the file in which it is presumed to lie
pub record Spot : Type 0 where
  pub file : List ℕ
  pub place : Place

-- 6.10.4p4: what stands behind the first quote
unfoldable pub behind_quote : List ℕ → List ℕ
behind_quote [] = []
behind_quote (b ∷ bs) = if nat_eq b double_quote then bs else behind_quote bs

-- 6.10.4p4: what of a text stands before a quote that closes it, behind which this is left
abbrev pub before_quote : (text : List ℕ) → Option (List ℕ) → List ℕ
before_quote text None = []
before_quote text (Some after) = take (length text - (length after + 1)) text

-- 6.10.4p4: the name in a marker's quotes. An escape in it stays as it is written: how a name is spelled there is the preprocessor's matter.
abbrev pub file_name : (marker : List ℕ) → List ℕ
file_name marker = before_quote (behind_quote marker) (behind_name false (behind_quote marker))

-- 6.10.4p4: the file behind a piece that stands where `text` is left: a marker names it
abbrev pub file_behind : What → (text file : List ℕ) → List ℕ
file_behind (White b) text file = file
file_behind (Comment n) text file = file
file_behind (Marker n) text file = file_name text
file_behind (Spelling s) text file = file

-- 6.10.4: the spot behind a piece
abbrev pub spot_behind : Spot → Piece → Spot
spot_behind s x = record { file = file_behind x.what s.place.text s.file; place = behind_piece x s.place }

-- 6.4p4: the piece that stands at a place, if no fewer than `left` bytes are left behind it
abbrev pub piece_before : (left : ℕ) → Stand → Option Piece
piece_before left End = None
piece_before left (Bad f) = None
piece_before left (Here x) = if nat_le left (length x.after) then Some x else None

-- 6.4p4: the pieces in a row behind a place, up to where `left` bytes are left: to the place that is looked for, or to the piece in which it lies. Each has a byte at least, so that the length of what is left bounds their count. Behind a fault there are none.
unfoldable pub row_to : (left most : ℕ) → Place → List Piece
row_to left zero p = []
row_to left (suc n) p = option_map_or (λ x. x ∷ row_to left n (behind_piece x p)) (piece_before left (stands p.fresh p.text)) []

-- 6.10.4p2, p3: the spot that the pieces before a place lead to: from line 1 of the file that is named to the compiler on, each marker gives the file and the number of the line behind it
abbrev pub spot_at : (name source : List ℕ) → (place : ℕ) → Spot
spot_at name source place = fold spot_behind (record { file = name; place = start source }) (row_to (length source - place) (length source) (start source))

-- 6.10.4p2: the line of the place where `left` bytes are left, which is the spot's or lies in the piece behind it: each line feed between them begins a line
abbrev pub line_in : (left : ℕ) → Spot → ℕ
line_in left s = s.place.line + line_feeds (take (length s.place.text - left) s.place.text)

-- 6.10.4: the file in which a place is presumed to lie
abbrev pub file_at : (name source : List ℕ) → (place : ℕ) → List ℕ
file_at name source place = (spot_at name source place).file

-- 6.10.4p2, p3: the number of the line in which a place is presumed to lie
abbrev pub line_at : (name source : List ℕ) → (place : ℕ) → ℕ
line_at name source place = line_in (length source - place) (spot_at name source place)
