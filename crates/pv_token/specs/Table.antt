-- The table of tokens, with their names and literals.
use Rattle.std.specs.Prelude.{◌≡◌, ℕ, if◌then◌else◌, List, [], ◌∷◌, ◌++◌, length, map, Option, Some, option_map, nat_eq, slice_get}
use Rattle.std.specs.List.{range_with_len, list_any, flat_map, fold}
use Rattle.std.specs.Cmp.Lexicographic.{pointwise}
use Rattle.pv_token.specs.declared.token_table.Token.{Token}
use Rattle.pv_token.specs.declared.token_table.TokenKind.{TokenKind}
use Rattle.pv_token.specs.declared.token_table.TokenKind.TheVariants as kind
use Rattle.pv_token.specs.Said.{Said, Name, Text, Keyword, Number, Character, Punctuator, Spelt}

-- What a caller sees of `Tokens`: the tokens (6.4p1), the different identifiers (6.4.2.1), and the decoded bytes of each string literal (6.4.5).
pub record Table : Type 0 where
  pub tokens : List Token
  pub names : List (List ℕ)
  pub texts : List (List ℕ)

-- What a token says, with its identifier or its literal looked up (6.4p1).
abbrev pub says : (names texts : List (List ℕ)) → TokenKind → Option Said
says names texts (kind.Word w) = Some (Keyword w)
says names texts (kind.Name n) = option_map Name (slice_get names n)
says names texts (kind.Number value decimal unsigned longs) = Some (Number value decimal unsigned longs)
says names texts (kind.Character value) = Some (Character value)
says names texts (kind.Text n) = option_map Text (slice_get texts n)
says names texts (kind.Mark m) = Some (Punctuator m)

-- A token of the table as a token of the source (6.4p1).
abbrev pub spelt_of : (names texts : List (List ℕ)) → Token → Option Spelt
spelt_of names texts t = option_map (λ s. record { said = s; start = t.start; line = t.line }) (says names texts t.kind)

-- The names with that of a token, if it is an identifier (6.4.2.1): one that is new goes behind the others; two identifiers are one where all bytes
-- are the same (6.4.2.1p5).
abbrev pub names_with : List (List ℕ) → Said → List (List ℕ)
names_with names (Name text) = if list_any (pointwise nat_eq text) names then names else names ++ text ∷ []
names_with names _ = names

-- The names, and then the different identifiers among these tokens in the order of their first places (6.4.2.1).
abbrev pub names_from : List (List ℕ) → List Spelt → List (List ℕ)
names_from names ss = fold (λ names (s : Spelt). names_with names s.said) names ss

-- The bytes of a token, if it is a string literal (6.4.5).
abbrev pub text_of : Said → List (List ℕ)
text_of (Text bytes) = bytes ∷ []
text_of _ = []

-- The number of a token, if it is a string literal (6.4.5).
abbrev pub text_number : TokenKind → List ℕ
text_number (kind.Text n) = n ∷ []
text_number _ = []

-- The table tells these tokens (6.4p1): each token is the one of its place, the names are theirs in the order of first places (6.4.2.1), and
-- the literals are theirs in order and numbered in order (6.4.5). Every string literal, in order; adjacent ones stay apart (6.4.5: they are
-- joined in a later phase, 5.1.1.2p1).
pub record Tells (t : Table) (ss : List Spelt) : Type 0 where
  pub tokens : map (spelt_of t.names t.texts) t.tokens ≡ map Some ss
  pub names : t.names ≡ names_from [] ss
  pub texts : t.texts ≡ (flat_map (λ s. text_of s.said) ss)
  pub in_order : flat_map (λ k. text_number k.kind) t.tokens ≡ range_with_len 0 (length t.texts)
