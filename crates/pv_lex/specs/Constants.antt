-- Integer constants.
use Rattle.std.specs.Prelude.{ℕ, ◌+◌, ◌-◌, ◌*◌, ◌^◌, true, false, if◌then◌else◌, not, ◌&&◌, ◌||◌, List, [], ◌∷◌, drop, Option, Some, None, option_map, nat_eq, nat_lt, codes}
use Rattle.std.specs.List.{starts_with}
use Rattle.pv_lex.specs.declared.bytes.Class.TheVariants as class
use Rattle.pv_lex.specs.declared.suffixes.Suffix.{Suffix}
use Rattle.pv_lex.specs.Bytes.{front, behind, begins, zero_digit, full_stop}
use Rattle.pv_lex.specs.Tables.{row_of}
use Rattle.pv_token.specs.Said.{Said, Number}
use Rattle.pv_lex.specs.Pieces.{Piece, ◌>>=◌, token}

-- The suffixes (6.4.4.1p1): is the constant unsigned, and how many times does `long` stand in its least type.
unfoldable pub suffixes : List (List ℕ × Suffix)
suffixes =
    ([], record { unsigned = false; longs = 0 }) ∷
    (codes "u", record { unsigned = true; longs = 0 }) ∷ (codes "U", record { unsigned = true; longs = 0 }) ∷
    (codes "l", record { unsigned = false; longs = 1 }) ∷ (codes "L", record { unsigned = false; longs = 1 }) ∷
    (codes "ll", record { unsigned = false; longs = 2 }) ∷ (codes "LL", record { unsigned = false; longs = 2 }) ∷
    (codes "ul", record { unsigned = true; longs = 1 }) ∷ (codes "lu", record { unsigned = true; longs = 1 }) ∷
    (codes "uL", record { unsigned = true; longs = 1 }) ∷ (codes "Lu", record { unsigned = true; longs = 1 }) ∷
    (codes "ull", record { unsigned = true; longs = 2 }) ∷ (codes "llu", record { unsigned = true; longs = 2 }) ∷
    (codes "uLL", record { unsigned = true; longs = 2 }) ∷ (codes "LLu", record { unsigned = true; longs = 2 }) ∷
    (codes "Ul", record { unsigned = true; longs = 1 }) ∷ (codes "lU", record { unsigned = true; longs = 1 }) ∷
    (codes "UL", record { unsigned = true; longs = 1 }) ∷ (codes "LU", record { unsigned = true; longs = 1 }) ∷
    (codes "Ull", record { unsigned = true; longs = 2 }) ∷ (codes "llU", record { unsigned = true; longs = 2 }) ∷
    (codes "ULL", record { unsigned = true; longs = 2 }) ∷ (codes "LLU", record { unsigned = true; longs = 2 }) ∷ []

-- What a digit is worth in any of the bases (6.4.4.1p4): 0 to 9, then A to F, then a to f.
abbrev pub digit_value : ℕ → ℕ
digit_value b = if nat_lt b 58 then b - 48 else (if nat_lt b 71 then b - 55 else b - 87)

-- The number that goes on from n with these digits, the first the most significant (6.4.4.1p4).
unfoldable pub value_from : (base n : ℕ) → List ℕ → ℕ
value_from base n [] = n
value_from base n (d ∷ ds) = value_from base (n * base + digit_value d) ds

-- A constant of this value, if some type of its list holds it (6.4.4p2, 6.4.4.1p5): a decimal constant without `u` is signed.
abbrev pub constant_of_value : (base value : ℕ) → Suffix → Option Said
constant_of_value base value s =
    if nat_lt value (2 ^ 64) && ((not (nat_eq base 10) || s.unsigned) || nat_lt value (2 ^ 63))
    then Some (Number value (nat_eq base 10) s.unsigned s.longs) else None

-- At least one digit, and then a suffix (6.4.4.1p1).
unfoldable pub number_of : (base : ℕ) → (digits suffix : List ℕ) → Option Said
number_of base [] suffix = None
number_of base (d ∷ ds) suffix = row_of suffixes suffix >>= constant_of_value base (value_from base 0 (d ∷ ds))

-- The constant that the whole text spells (6.4.4.1p1): `0x` or `0X` begins a hexadecimal one, any other `0` an octal one.
unfoldable pub constant_of : List ℕ → Option Said
constant_of text =
    if starts_with nat_eq text (codes "0x") || starts_with nat_eq text (codes "0X") then number_of 16 (front class.Hex (drop 2 text)) (behind class.Hex (drop 2 text))
    else (if begins (λ b. nat_eq b zero_digit) text then number_of 8 (front class.Octal text) (behind class.Octal text)
    else number_of 10 (front class.Digit text) (behind class.Digit text))

-- At a digit stands the run of letters, digits and `_`, which must spell a constant, and no dot may follow: letters, digits, `_` and dots behind a digit are one preprocessing number (6.4.8p1), which must have the form of a token (6.4p2).
unfoldable pub number_at : List ℕ → Option Piece
number_at text =
    if begins (λ b. nat_eq b full_stop) (behind class.Word text) then None
    else option_map (λ s. token s (behind class.Word text)) (constant_of (front class.Word text))
