-- Where a refusal is: a place among the first bytes of a source, counted from 0.
use Rattle.std.specs.Prelude.{◌≡◌, ℕ, Bool, false, List, [], ◌∷◌, length, take, drop, slice_index_or, if◌then◌else◌}
use Rattle.std.specs.Str.{bytes_eq}
use Rattle.pv_token.specs.declared.token_table.Token.{Token as LexToken}
use Rattle.pv_token.specs.declared.token_table.TokenKind.{TokenKind}
use Rattle.pv_token.specs.declared.token_table.TokenKind.TheVariants as kind
use Rattle.pv_token.specs.Table.{Table}
use Rattle.pv_lex.specs.Lexes.{Lexes}
use Rattle.pv_stmt.specs.Behind.{IsBehind}
use Rattle.pv_serve.specs.Verdicts.{Refusal, Size, Byte, Token, Profile, Syntax, Constraint, Unresolved, NoMain}
use Rattle.pv_serve.specs.Readings.{Bad}
use Rattle.pv_serve.specs.Comes.{source_limit, Reads}

-- The first bytes of a source, as many as one may have (5.2.4.1): all, where it is not too long.
abbrev pub first_bytes : List ℕ → List ℕ
first_bytes source = take source_limit source

-- The place of the first of these tokens (6.4p1); the end of the source where there is none.
abbrev pub start_of : (end : ℕ) → List LexToken → ℕ
start_of end [] = end
start_of end (t ∷ ts) = t.start

-- A token is the identifier of this spelling (6.4.2.1).
abbrev pub is_named : (names : List (List ℕ)) → (text : List ℕ) → TokenKind → Bool
is_named names text (kind.Name n) = bytes_eq (slice_index_or names n []) text
is_named names text _ = false

-- The place of the first token that is this identifier (6.4.2.1); the end of the source where none is.
abbrev pub first_named : (end : ℕ) → (names : List (List ℕ)) → (text : List ℕ) → List LexToken → ℕ
first_named end names text [] = end
first_named end names text (t ∷ ts) = if is_named names text t.kind then t.start else first_named end names text ts

-- What stands behind the first n external declarations (6.9p1) begins at this place: the token behind them, or the end of the source.
pub record StandsBehind (source : List ℕ) (n place : ℕ) : Type 0 where
  pub tokens : Table
  pub lexed : Lexes source tokens
  pub index : ℕ
  pub behind : IsBehind tokens.tokens n index
  pub is : place ≡ start_of (length source) (drop index tokens.tokens)

-- The first token that is this identifier (6.4.2.1) begins at this place.
pub record IsFirstNamed (source name : List ℕ) (place : ℕ) : Type 0 where
  pub tokens : Table
  pub lexed : Lexes source tokens
  pub is : place ≡ first_named (length source) tokens.names name tokens.tokens

-- Where a refusal is (5.1.1.3p1 asks for a message, and leaves its form open): a byte, a token or a word of C17 at its own place; a fault of the
-- grammar or a broken constraint where the external declaration begins that has no reading or no typing (6.9p1); a name that nothing
-- defines (6.9p5) where it stands first; what the whole source lacks, or is too long for, at the end.
abbrev pub IsPlace : (source : List ℕ) → Refusal → (place : ℕ) → Type 0
IsPlace source Size place = place ≡ length source
IsPlace source (Byte at) place = place ≡ at
IsPlace source (Token at) place = place ≡ at
IsPlace source (Profile at word) place = place ≡ at
IsPlace source (Syntax whole) place = StandsBehind source whole place
IsPlace source (Constraint index) place = StandsBehind source index place
IsPlace source (Unresolved name) place = IsFirstNamed source name place
IsPlace source NoMain place = place ≡ length source

-- A source with these first bytes is refused for this reason (5.1.1.3p1).
pub record IsRefused (first : List ℕ) (refusal : Refusal) : Type 0 where
  pub source : List ℕ
  pub reads : Reads source (Bad refusal)
  pub are : first ≡ first_bytes source

-- There is a place of it (5.1.1.3p1).
pub record SomePlace (source : List ℕ) (refusal : Refusal) : Type 0 where
  pub place : ℕ
  pub is : IsPlace source refusal place
