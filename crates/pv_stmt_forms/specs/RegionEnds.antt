-- A bridge: where an external declaration may end, as far as its braces and semicolons tell (6.7p1, 6.9.1p1).
use Rattle.std.specs.Prelude.{◌≡◌, ◌-◌, ◌<◌, ℕ, zero, suc, Bool, true, false, List, [], ◌∷◌, IsSomeAnd, slice_get}
use Rattle.pv_token.specs.declared.token_table.Token.{Token}
use Rattle.pv_token.specs.declared.token_table.TokenKind.{TokenKind}
use Rattle.pv_token.specs.declared.token_table.TokenKind.TheVariants as kind
use Rattle.pv_token.specs.declared.marks.Mark.TheVariants as mark
use Rattle.pv_decl_forms.specs.Pieces.{is_semicolon}

-- `;` (6.7p1) or `}` (6.8.2p1)
abbrev pub may_end : TokenKind → Bool
may_end (kind.Mark mark.Semicolon) = true
may_end (kind.Mark mark.CloseBrace) = true
may_end _ = false

-- such a token stands directly before a place (6.7p1, 6.9.1p1)
abbrev pub EndsBefore : List Token → (place : ℕ) → Type 0
EndsBefore tokens place = IsSomeAnd (slice_get tokens (place - 1)) (λ t. may_end t.kind ≡ true)

-- how many braces are open behind a token, of so many that are open before it (6.8.2p1, 6.7.2.1p1, 6.7.9p1)
abbrev pub braces_behind : TokenKind → (braces : ℕ) → ℕ
braces_behind (kind.Mark mark.OpenBrace) braces = suc braces
braces_behind (kind.Mark mark.CloseBrace) braces = braces - 1
braces_behind _ braces = braces

-- of so many first tokens none is a `;` (6.7p1) outside all braces, where so many braces are open before them
abbrev pub NoneEnds : (braces count : ℕ) → List Token → Type 0
NoneEnds braces zero ts = Unit {0}
NoneEnds braces (suc count) [] = Unit {0}
NoneEnds braces (suc count) (t ∷ ts) = (is_semicolon t.kind ≡ true → 0 < braces) × NoneEnds (braces_behind t.kind braces) count ts
