-- A bridge: the tokens of a table (6.4p1) as it has them: the value of a constant from 2^32 on (6.4.4.1) stands in a list of its own.
use Rattle.std.specs.Prelude.{ℕ, ◌≤◌, ◌<◌, ◌^◌, if◌then◌else◌, nat_lt, List, [], ◌∷◌, ◌++◌, length, slice_index_or}
use Rattle.pv_token.specs.declared.short.ShortKind.{ShortKind}
use Rattle.pv_token.specs.declared.short.ShortKind.TheVariants as short
use Rattle.pv_token.specs.declared.short.ShortToken.{ShortToken}
use Rattle.pv_token.specs.declared.token_table.Token.{Token}
use Rattle.pv_token.specs.declared.token_table.TokenKind.{TokenKind}
use Rattle.pv_token.specs.declared.token_table.TokenKind.TheVariants as kind

-- What a token is (6.4p1), by its short form.
abbrev pub kind_of : (values : List ℕ) → ShortKind → TokenKind
kind_of values (short.Word w) = kind.Word w
kind_of values (short.Name n) = kind.Name n
kind_of values (short.Number decimal unsigned longs value) = kind.Number value decimal unsigned longs
kind_of values (short.Large decimal unsigned longs place) = kind.Number (slice_index_or values place 0) decimal unsigned longs
kind_of values (short.Character value) = kind.Character value
kind_of values (short.Text n) = kind.Text n
kind_of values (short.Mark m) = kind.Mark m

-- A token (6.4p1), by its short form.
abbrev pub token_of : (values : List ℕ) → ShortToken → Token
token_of values t = record { kind = kind_of values t.kind; start = t.start; line = t.line }

-- The values of large constants with that of a token, if it is one (6.4.4.1).
abbrev pub values_with : List ℕ → TokenKind → List ℕ
values_with values (kind.Word w) = values
values_with values (kind.Name n) = values
values_with values (kind.Number value decimal unsigned longs) = if nat_lt value (2 ^ 32) then values else values ++ value ∷ []
values_with values (kind.Character value) = values
values_with values (kind.Text n) = values
values_with values (kind.Mark m) = values

-- The value of a large constant is one of the first n (6.4.4.1).
abbrev pub IsThere : (n : ℕ) → ShortKind → Type 0
IsThere n (short.Word w) = Unit {0}
IsThere n (short.Name m) = Unit {0}
IsThere n (short.Number decimal unsigned longs value) = Unit {0}
IsThere n (short.Large decimal unsigned longs place) = place < n
IsThere n (short.Character value) = Unit {0}
IsThere n (short.Text m) = Unit {0}
IsThere n (short.Mark m) = Unit {0}

-- The value of each large constant among these tokens is one of the first n (6.4.4.1).
abbrev pub AreThere : (n : ℕ) → List ShortToken → Type 0
AreThere n [] = Unit {0}
AreThere n (t ∷ ts) = IsThere n t.kind × AreThere n ts

-- What holds of the tokens of every table and of the values of its large constants (6.4.4.1).
pub record AreShort (values : List ℕ) (ts : List ShortToken) : Type 0 where
  pub few : length ts < 2 ^ 32
  pub fewer : length values ≤ length ts
  pub there : AreThere (length values) ts
