-- Line markers, as preprocessors write them: `# 12 "file.c" 1 2`. A marker numbers the line behind it, as the directive `#line` does (6.10.4p3).
use Rattle.std.specs.Option.{option_map_or}
use Rattle.std.specs.Prelude.{ℕ, zero, suc, Bool, true, false, if◌then◌else◌, ◌&&◌, List, [], ◌∷◌, length, Option, Some, None, nat_eq, nat_le}
use Rattle.pv_lex.specs.declared.bytes.Class.{Class}
use Rattle.pv_lex.specs.declared.bytes.Class.TheVariants as class
use Rattle.pv_lex.specs.Bytes.{is_in, front, behind, begins, line_feed, double_quote, backslash}
use Rattle.pv_lex.specs.Constants.{value_from}
use Rattle.pv_lex.specs.Pieces.{Marker, Piece, ◌>>=◌}

-- At least one byte of the class, and what is left behind them (6.10.4p3: digits; 6.10p5: white space).
unfoldable pub some_of : Class → List ℕ → Option (List ℕ × List ℕ)
some_of k text = if begins (is_in k) text then Some (front k text, behind k text) else None

-- What is left behind the quote that closes a file's name (6.10.4p4). A backslash takes the next byte with it, and a line feed stands in no name (6.4.5p1). `taken`: a backslash stands before.
unfoldable pub behind_name : (taken : Bool) → List ℕ → Option (List ℕ)
behind_name taken [] = None
behind_name true (b ∷ bs) = if nat_eq b line_feed then None else behind_name false bs
behind_name false (b ∷ bs) = if nat_eq b double_quote then Some bs else (if nat_eq b line_feed then None else behind_name (nat_eq b backslash) bs)

-- A file's name in its quotes (6.10.4p4).
abbrev pub behind_quotes : List ℕ → Option (List ℕ)
behind_quotes [] = None
behind_quotes (b ∷ bs) = if nat_eq b double_quote then behind_name false bs else None

-- What is left behind the end of the line (6.10p2): a line feed, or the end of the source.
abbrev pub behind_line_feed : List ℕ → Option (List ℕ)
behind_line_feed [] = Some []
behind_line_feed (b ∷ bs) = if nat_eq b line_feed then Some bs else None

-- At most n flags, each white space and then a number, white space, and the end of the line (6.10p2 and p5).
unfoldable pub groups : (n : ℕ) → List ℕ → Option (List ℕ)
groups zero text = behind_line_feed (behind class.LineTail text)
groups (suc n) text =
    option_map_or (λ g. groups n g.1) (some_of class.Blank text >>= λ a. some_of class.Digit a.1) (behind_line_feed (behind class.LineTail text))

-- A line marker, behind its `#` (6.10.4p3 and p4): a number of at most ten digits, and at most 2147483647, which may be 0 here, a file's name, flags,
-- and the end of the line. A flag has two bytes at least, so the length of what is left bounds their count.
unfoldable pub marker : List ℕ → Option Piece
marker text = do
  a ← some_of class.Blank text
  n ← some_of class.Digit a.1
  b ← some_of class.Blank n.1
  name ← behind_quotes b.1
  after ← groups (length name) name
  if nat_le (length n.0) 10 && nat_le (value_from 10 0 n.0) 2147483647 then Some (record { what = Marker (value_from 10 0 n.0); after = after })
      else None
