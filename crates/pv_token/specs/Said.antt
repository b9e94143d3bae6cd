-- What a token says, before and behind its place in a table.
use Rattle.std.specs.Prelude.{ℕ, Bool, List, if◌then◌else◌, nat_lt, ℤ, pos, ◌-ℤ◌}
use Rattle.pv_token.specs.declared.words.Word.{Word}
use Rattle.pv_token.specs.declared.marks.Mark.{Mark}

-- What a token says (6.4p1): a keyword, an identifier, a constant, the decoded bytes of a string literal, a punctuator.
pub data Said : Type 0 where
  Keyword : (w : Word) → Said
  Name : (text : List ℕ) → Said
  Number : (value : ℕ) (decimal unsigned : Bool) (longs : ℕ) → Said
  Character : (value : ℤ) → Said
  Text : (bytes : List ℕ) → Said
  Punctuator : (m : Mark) → Said

-- A token of the source (6.4p1): what it says, the place of its first byte, and the line of that byte (6.10.4p2).
pub record Spelt : Type 0 where
  pub said : Said
  pub start : ℕ
  pub line : ℕ

-- The value of a character constant is its byte as a `char`, which is signed here, as an `int` (6.4.4.4p10).
abbrev pub as_char : ℕ → ℤ
as_char b = if nat_lt b 128 then pos b else (pos b -ℤ pos 256)
