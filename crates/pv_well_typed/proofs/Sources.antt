-- What is so of the tokens of each source (C17 6.4.4.4, 6.4.5).
use Rattle.std.specs.Prelude.{◌<◌, ◌+◌, ℕ, List, [], ◌∷◌, length}
use Rattle.pv_num.specs.declared.kinds.IntKind.TheVariants.{Int}
use Rattle.pv_num.specs.Kinds.{Fits}
use Rattle.pv_token.specs.Said.{Said, Name, Text, Keyword, Number, Character, Punctuator}
use Rattle.pv_typed.specs.Known.{Each}

-- 5.2.1p3, 6.4.5p6: the characters of a string literal are bytes
abbrev pub AreBytes : List ℕ → Type 0
AreBytes bytes = Each (λ b. b < 256) bytes

-- 5.1.1.2p1: how many bytes string literals have
abbrev pub letters : List (List ℕ) → ℕ
letters [] = 0
letters (x ∷ xs) = length x + letters xs

-- 6.4p1: what a token of a source says: a character constant has an `int`'s value, and a string literal is of bytes
abbrev pub IsSourceToken : Said → Type 0
IsSourceToken (Keyword w) = Unit {0}
IsSourceToken (Name text) = Unit {0}
IsSourceToken (Number value decimal unsigned longs) = Unit {0}
IsSourceToken (Character value) = Fits Int value
IsSourceToken (Text bytes) = AreBytes bytes
IsSourceToken (Punctuator m) = Unit {0}
