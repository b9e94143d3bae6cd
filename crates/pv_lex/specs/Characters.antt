-- Character constants and string literals.
use Rattle.std.specs.Prelude.{ℕ, zero, suc, ◌||◌, if◌then◌else◌, List, [], ◌∷◌, length, take, drop, min, Option, Some, None, option_map, nat_eq, nat_lt, codes}
use Rattle.pv_lex.specs.declared.bytes.Class.TheVariants as class
use Rattle.pv_lex.specs.Bytes.{is_in, run, front, behind, begins, line_feed, single_quote, double_quote, backslash}
use Rattle.pv_lex.specs.Tables.{row_of}
use Rattle.pv_lex.specs.Constants.{value_from}
use Rattle.pv_token.specs.Said.{Character, Text, as_char}
use Rattle.pv_lex.specs.Pieces.{Piece, ◌>>=◌, token}

-- The simple escapes (6.4.4.4p1): the byte behind the backslash, and the byte that it stands for (6.4.4.4p3, 5.2.2p2). The first four stand for themselves.
unfoldable pub escapes : List (List ℕ × ℕ)
escapes =
    (single_quote ∷ [], single_quote) ∷ (double_quote ∷ [], double_quote) ∷ (codes "?", 63) ∷ (backslash ∷ [], backslash) ∷
    (codes "a", 7) ∷ (codes "b", 8) ∷ (codes "f", 12) ∷ (codes "n", 10) ∷
    (codes "r", 13) ∷ (codes "t", 9) ∷ (codes "v", 11) ∷ []

-- A character by its number (6.4.4.4p5 and p6): at least one digit, and at most 255, the greatest `unsigned char` (6.4.4.4p9).
unfoldable pub character_by_number : (base : ℕ) → (digits after : List ℕ) → Option (ℕ × List ℕ)
character_by_number base [] after = None
character_by_number base (d ∷ ds) after = if nat_lt (value_from base 0 (d ∷ ds)) 256 then Some (value_from base 0 (d ∷ ds), after) else None

-- Behind the backslash stand one to three octal digits, `x` and as many hexadecimal digits as there are, or a simple escape (6.4.4.4p1 and p7).
unfoldable pub escape_at : List ℕ → Option (ℕ × List ℕ)
escape_at [] = None
escape_at (b ∷ bs) =
    if is_in class.Octal b then character_by_number 8 (take (min 3 (run class.Octal (b ∷ bs))) (b ∷ bs)) (drop (min 3 (run class.Octal (b ∷ bs))) (b ∷ bs))
    else (if nat_eq b 120 then character_by_number 16 (front class.Hex bs) (behind class.Hex bs)
    else option_map (λ n. (n, bs)) (row_of escapes (b ∷ [])))

-- One character between quotes q: its byte, and what is left (6.4.4.4p1, 6.4.5p1). A line feed ends no literal and stands in none.
unfoldable pub character_at : (q : ℕ) → List ℕ → Option (ℕ × List ℕ)
character_at q [] = None
character_at q (b ∷ bs) =
    if nat_eq b backslash then escape_at bs
    else (if nat_eq b line_feed || nat_eq b q then None else Some (b, bs))

-- A character constant, behind its first quote: one character, and the closing quote (6.4.4.4p1).
unfoldable pub character_constant : List ℕ → Option Piece
character_constant text = do
  x ← character_at single_quote text
  if begins (λ b. nat_eq b single_quote) x.1 then Some (token (Character (as_char x.0)) (drop 1 x.1)) else None

-- The characters up to the closing quote, at most n of them with it (6.4.5p1).
unfoldable pub characters : (n : ℕ) → List ℕ → Option (List ℕ × List ℕ)
characters zero text = None
characters (suc n) text =
    if begins (λ b. nat_eq b double_quote) text then Some ([], drop 1 text)
    else character_at double_quote text >>= λ x. option_map (λ y. (x.0 ∷ y.0, y.1)) (characters n x.1)

-- A string literal, behind its first quote (6.4.5p1). Each character has a byte at least, so the length of what is left bounds their count.
unfoldable pub string_literal : List ℕ → Option Piece
string_literal text = option_map (λ x. token (Text x.0) x.1) (characters (length text) text)
