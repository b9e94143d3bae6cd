-- Physical source lines (5.1.1.2p1), and what is shown of one.
use Rattle.std.specs.Prelude.{ℕ, ◌+◌, Bool, ◌&&◌, ◌||◌, not, if◌then◌else◌, List, [], ◌∷◌, ◌++◌, map, length, take, drop, nat_eq, nat_lt, codes}
use Rattle.std.specs.List.{before_first, after_last}
use Rattle.pv_lex.specs.Bytes.{tab, line_feed, space}

-- 5.2.1p3: the character that ends a line. It belongs to the line that it ends: so a place at it lies in that line, and the end of a source that ends with one lies in the empty line behind it.
abbrev pub ends_line : ℕ → Bool
ends_line b = nat_eq b line_feed

-- 5.1.1.2p1: what stands before the place on its line
abbrev pub line_before : (source : List ℕ) → (place : ℕ) → List ℕ
line_before source place = after_last ends_line (take place source)

-- 5.1.1.2p1: what stands from the place on in its line, which the end of the source ends as well
abbrev pub line_from : (source : List ℕ) → (place : ℕ) → List ℕ
line_from source place = before_first ends_line (drop place source)

-- 5.1.1.2p1: the line in which the place lies
abbrev pub source_line : (source : List ℕ) → (place : ℕ) → List ℕ
source_line source place = line_before source place ++ line_from source place

-- 5.1.1.2p1: which byte of its line the place is; the first is 1
abbrev pub column : (source : List ℕ) → (place : ℕ) → ℕ
column source place = length (line_before source place) + 1

-- 5.1.1.3: so many bytes of a line are shown at most
unfoldable pub shown_most : ℕ
shown_most = 200

-- 5.2.1p3, 5.2.2p2: a byte as it is shown: a control byte as `?`, but for the tab
abbrev pub shown_byte : ℕ → ℕ
shown_byte b = if (nat_lt b 32 && not (nat_eq b tab)) || nat_eq b 127 then 63 else b

-- 5.1.1.3: the line as it is shown, behind two blanks
abbrev pub shown_line : (line : List ℕ) → List ℕ
shown_line line = codes "  " ++ map shown_byte (take shown_most line) ++ line_feed ∷ []

-- 5.2.2p2: what stands under a byte before the place: a tab under a tab, so that the mark comes to stand under its byte
abbrev pub margin_byte : ℕ → ℕ
margin_byte b = if nat_eq b tab then tab else space

-- 5.1.1.3: the place is shown: the whole line is, or so much of it that the byte at the place is among that
abbrev pub is_shown : (before : List ℕ) → (line : List ℕ) → Bool
is_shown before line = nat_lt (length before) shown_most || not (nat_lt shown_most (length line))

-- 5.1.1.3: the mark under the place, with what stands before it on its line; none where the place isn't shown
abbrev pub mark_line : (before : List ℕ) → (line : List ℕ) → List ℕ
mark_line before line = if is_shown before line then codes "  " ++ map margin_byte before ++ codes "^" ++ line_feed ∷ [] else []
