-- A bridge: what the table of tokens has room for and keeps, and how it grows.
use Rattle.std.specs.Prelude.{◌+◌, ◌<◌, ◌^◌, length, ◌≡◌, ℕ, Some, slice_get, List, ◌++◌, [], ◌∷◌}
use Rattle.pv_token.specs.Table.{Table, Tells}
use Rattle.pv_token.specs.declared.token_table.TokenKind.{TokenKind}
use Rattle.pv_token.specs.declared.token_table.TokenKind.TheVariants as kind
use Rattle.pv_token.specs.Said.{Name, Text, Number, Character, Spelt, Said}
use Rattle.pv_token.specs.declared.token_table.Token.{Token}

-- One more token, name or literal still has a number that is a `u32`: a source may have as many as it has bytes.
pub record HasRoom (t : Table) : Type 0 where
  pub tokens : length t.tokens + 1 < 2 ^ 32
  pub names : length t.names + 1 < 2 ^ 32
  pub texts : length t.texts + 1 < 2 ^ 32

-- The number of a token's identifier or literal is one of the table's (6.4.2.1, 6.4.5).
abbrev pub IsKnown : Table → TokenKind → Type 0
IsKnown t (kind.Word w) = Unit {0}
IsKnown t (kind.Name n) = n < length t.names
IsKnown t (kind.Number value decimal unsigned longs) = Unit {0}
IsKnown t (kind.Character value) = Unit {0}
IsKnown t (kind.Text n) = n < length t.texts
IsKnown t (kind.Mark m) = Unit {0}

-- Every token's number may be looked up (6.4p1).
abbrev pub KnowsAll : Table → Type 0
KnowsAll t = (i : ℕ) (k : Token) → slice_get t.tokens i ≡ Some k → IsKnown t k.kind

-- The new table tells what the old one told, and then these tokens (6.4p1).
abbrev pub Adds : (old new : Table) → List Spelt → Type 0
Adds old new more = (ss : List Spelt) → Tells old ss → Tells new (ss ++ more)

-- A token with its identifier or its literal kept in the table (6.4p1): behind any tokens, wherever it begins, it adds what it says.
abbrev pub Keeps : (names new_names texts new_texts : List (List ℕ)) → TokenKind → Said → Type 0
Keeps names new_names texts new_texts k said = (tokens : List Token) (start line : ℕ) →
    Adds (record { tokens = tokens; names = names; texts = texts }) (record { tokens = tokens ++ record { kind = k; start = start; line = line } ∷ []; names = new_names; texts = new_texts })
    (record { said = said; start = start; line = line } ∷ [])
