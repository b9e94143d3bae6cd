-- Classes of bytes, and how far a class reaches from the front of a text.
use Rattle.std.specs.Prelude.{ℕ, suc, Bool, false, cond, not, ◌||◌, List, [], ◌∷◌, take, drop, nat_eq}
use Rattle.std.specs.Char.{is_ascii_digit, is_ascii_alphabetic, is_ascii_alphanumeric, is_ascii_hexdigit}
use Rattle.std.specs.Int.{is_in_range}
use Rattle.pv_lex.specs.declared.bytes.Class.{Class}
use Rattle.pv_lex.specs.declared.bytes.Class.TheVariants as class

-- The horizontal tab (5.2.1p3), as all single bytes by name in this file.
abbrev pub tab : ℕ
tab = 9

-- The new-line character (5.2.1p3, 5.2.2p2).
abbrev pub line_feed : ℕ
line_feed = 10

-- The carriage return (5.2.2p2).
abbrev pub carriage_return : ℕ
carriage_return = 13

-- The space (5.2.1p3).
abbrev pub space : ℕ
space = 32

-- `"` (5.2.1p3).
abbrev pub double_quote : ℕ
double_quote = 34

-- `#` (5.2.1p3).
abbrev pub number_sign : ℕ
number_sign = 35

-- `'` (5.2.1p3).
abbrev pub single_quote : ℕ
single_quote = 39

-- `.` (5.2.1p3).
abbrev pub full_stop : ℕ
full_stop = 46

-- `0` (5.2.1p3).
abbrev pub zero_digit : ℕ
zero_digit = 48

-- `\` (5.2.1p3).
abbrev pub backslash : ℕ
backslash = 92

-- `_` (5.2.1p3).
abbrev pub underscore : ℕ
underscore = 95

-- White space (6.4p3): space, tab, vertical tab, form feed, line feed, and the carriage return of sources that end their lines with two bytes.
abbrev pub is_white : ℕ → Bool
is_white b = is_in_range 9 13 b || nat_eq b space

-- What an identifier may begin with (6.4.2.1p1).
abbrev pub is_letter : ℕ → Bool
is_letter b = is_ascii_alphabetic b || nat_eq b underscore

-- The classes of bytes: of an identifier (6.4.2.1p1), the digits of the three bases (6.4.4.1p1), the white space of a directive (6.10p5) and of its end, and what a `//` comment may hold (6.4.9p2).
abbrev pub is_in : Class → ℕ → Bool
is_in class.Word b = is_ascii_alphanumeric b || nat_eq b underscore
is_in class.Digit b = is_ascii_digit b
is_in class.Octal b = is_in_range 48 55 b
is_in class.Hex b = is_ascii_hexdigit b
is_in class.Blank b = nat_eq b space || nat_eq b tab
is_in class.LineTail b = (nat_eq b space || nat_eq b tab) || nat_eq b carriage_return
is_in class.InLine b = not (nat_eq b line_feed)

-- How many bytes at the front are of the class: the longest such run (6.4p4).
unfoldable pub run : Class → List ℕ → ℕ
run k [] = 0
run k (b ∷ bs) = cond (is_in k b) (suc (run k bs)) 0

-- The bytes of that run (6.4p4).
abbrev pub front : Class → List ℕ → List ℕ
front k bs = take (run k bs) bs

-- What is left behind that run (6.4p4).
abbrev pub behind : Class → List ℕ → List ℕ
behind k bs = drop (run k bs) bs

-- The text has a first byte, and it passes the test (6.4p4: what may not follow a token).
abbrev pub begins : (ℕ → Bool) → List ℕ → Bool
begins p [] = false
begins p (b ∷ bs) = p b

-- How many line feeds there are, each of which begins a new line (6.10.4p2).
unfoldable pub line_feeds : List ℕ → ℕ
line_feeds [] = 0
line_feeds (b ∷ bs) = cond (nat_eq b line_feed) (suc (line_feeds bs)) (line_feeds bs)
