-- Punctuators.
use Rattle.std.specs.Prelude.{ℕ, List, [], ◌∷◌, length, drop, codes}
use Rattle.pv_token.specs.declared.marks.Mark.{Mark}
use Rattle.pv_token.specs.declared.marks.Mark.TheVariants as mark
use Rattle.pv_lex.specs.declared.pieces.Fault.TheVariants as fault
use Rattle.pv_lex.specs.Tables.{first_row}
use Rattle.pv_token.specs.Said.{Punctuator}
use Rattle.pv_lex.specs.Pieces.{Stand, Bad, Here, token}
use Rattle.std.specs.Option.{option_map_or}

-- The punctuators (6.4.6p1), longer ones first, and the digraphs with the meaning of their twins (6.4.6p3). Those of the preprocessor alone, `#` and `##` and their digraphs, are none of them.
unfoldable pub marks : List (List ℕ × Mark)
marks =
    (codes "...", mark.Ellipsis) ∷ (codes "<<=", mark.ShlAssign) ∷ (codes ">>=", mark.ShrAssign) ∷
    (codes "->", mark.Arrow) ∷ (codes "++", mark.Increment) ∷ (codes "--", mark.Decrement) ∷
    (codes "<<", mark.Shl) ∷ (codes ">>", mark.Shr) ∷
    (codes "<=", mark.LessEqual) ∷ (codes ">=", mark.GreaterEqual) ∷ (codes "==", mark.Equal) ∷ (codes "!=", mark.NotEqual) ∷
    (codes "&&", mark.AndAnd) ∷ (codes "||", mark.OrOr) ∷
    (codes "*=", mark.MulAssign) ∷ (codes "/=", mark.DivAssign) ∷ (codes "%=", mark.RemAssign) ∷
    (codes "+=", mark.AddAssign) ∷ (codes "-=", mark.SubAssign) ∷
    (codes "&=", mark.AndAssign) ∷ (codes "^=", mark.XorAssign) ∷ (codes "|=", mark.OrAssign) ∷
    (codes "<:", mark.OpenBracket) ∷ (codes ":>", mark.CloseBracket) ∷ (codes "<%", mark.OpenBrace) ∷ (codes "%>", mark.CloseBrace) ∷
    (codes "[", mark.OpenBracket) ∷ (codes "]", mark.CloseBracket) ∷
    (codes "(", mark.OpenParen) ∷ (codes ")", mark.CloseParen) ∷
    (codes "{", mark.OpenBrace) ∷ (codes "}", mark.CloseBrace) ∷
    (codes ".", mark.Dot) ∷ (codes "&", mark.And) ∷ (codes "*", mark.Star) ∷ (codes "+", mark.Plus) ∷ (codes "-", mark.Minus) ∷
    (codes "~", mark.Tilde) ∷ (codes "!", mark.Not) ∷ (codes "/", mark.Slash) ∷ (codes "%", mark.Percent) ∷
    (codes "<", mark.Less) ∷ (codes ">", mark.Greater) ∷
    (codes "^", mark.Caret) ∷ (codes "|", mark.Or) ∷
    (codes "?", mark.Question) ∷ (codes ":", mark.Colon) ∷
    (codes ";", mark.Semicolon) ∷ (codes "=", mark.Assign) ∷ (codes ",", mark.Comma) ∷ []

-- The longest punctuator that stands here (6.4p4, 6.4.6p1).
unfoldable pub mark_at : List ℕ → Stand
mark_at text = option_map_or (λ (r : List ℕ × Mark). Here (token (Punctuator r.1) (drop (length r.0) text))) (first_row marks text) (Bad fault.BadByte)
