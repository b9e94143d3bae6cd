-- The tokens that a form ends with or goes on with.
use Rattle.std.proofs.Common.{◌≡◌, ℕ, suc, Bool, true, false, cond, List, [], ◌∷◌, drop, Some, None, refl, ap, ◌∙◌}
use Rattle.std.proofs.lemmas.Bool.{eqb-true}
use Rattle.pv_token.specs.declared.token_table.Token.{Token}
use Rattle.pv_token.specs.declared.token_table.TokenKind.{TokenKind}
use Rattle.pv_token.specs.declared.token_table.TokenKind.TheVariants as kind
use Rattle.pv_token.specs.declared.marks.Mark.TheVariants as mark
use Rattle.pv_tree.specs.Spelling.{text_tokens}
use Rattle.pv_expr_forms.specs.Reader.{is_open, is_close, is_bracket, is_colon, is_comma, is_text, after, texts_in_row}
use Rattle.pv_expr_forms.proofs.Runs.{Takes}
use Rattle.pv_expr_forms.proofs.Steps.{guarded, some_is}

pub open_is : (k : TokenKind) → is_open k ≡ true → k ≡ kind.Mark mark.OpenParen
open_is (kind.Mark mark.OpenParen) e = refl
open_is _ e = absurd cc

pub close_is : (k : TokenKind) → is_close k ≡ true → k ≡ kind.Mark mark.CloseParen
close_is (kind.Mark mark.CloseParen) e = refl
close_is _ e = absurd cc

bracket_is : (k : TokenKind) → is_bracket k ≡ true → k ≡ kind.Mark mark.CloseBracket
bracket_is (kind.Mark mark.CloseBracket) e = refl
bracket_is _ e = absurd cc

colon_is : (k : TokenKind) → is_colon k ≡ true → k ≡ kind.Mark mark.Colon
colon_is (kind.Mark mark.Colon) e = refl
colon_is _ e = absurd cc

pub comma_is : (k : TokenKind) → is_comma k ≡ true → k ≡ kind.Mark mark.Comma
comma_is (kind.Mark mark.Comma) e = refl
comma_is _ e = absurd cc

text_is : (n : ℕ) (k : TokenKind) → is_text n k ≡ true → k ≡ kind.Text n
text_is n (kind.Text m) e = ap (λ (x : ℕ). kind.Text x) (eqb-true m n e)
text_is n _ e = absurd cc

-- a token that is found stands there, if the test is for one kind
pub after_is : (test : TokenKind → Bool) (k : TokenKind) → ((x : TokenKind) → test x ≡ true → x ≡ k) → (ts rest : List Token) → after test ts ≡ Some rest
    → Takes (k ∷ []) ts rest
after_is test k is [] rest e = absurd cc
after_is test k is (t ∷ ts) rest e =
    let g = guarded (test t.kind) (Some ts) rest e in
    (is t.kind g.0, some_is ts rest g.1)

pub after_close : (ts rest : List Token) → after is_close ts ≡ Some rest → Takes (kind.Mark mark.CloseParen ∷ []) ts rest
after_close ts rest e = after_is is_close (kind.Mark mark.CloseParen) close_is ts rest e

pub after_bracket : (ts rest : List Token) → after is_bracket ts ≡ Some rest → Takes (kind.Mark mark.CloseBracket ∷ []) ts rest
after_bracket ts rest e = after_is is_bracket (kind.Mark mark.CloseBracket) bracket_is ts rest e

pub after_colon : (ts rest : List Token) → after is_colon ts ≡ Some rest → Takes (kind.Mark mark.Colon ∷ []) ts rest
after_colon ts rest e = after_is is_colon (kind.Mark mark.Colon) colon_is ts rest e

-- a token that a test finds
pub after_test : (test : TokenKind → Bool) (k : TokenKind) (t : Token) (ts : List Token) → test k ≡ true → t.kind ≡ k → after test (t ∷ ts) ≡ Some ts
after_test test k t ts is e = ap (λ (x : TokenKind). cond (test x) (Some ts) None) e ∙ ap (λ (b : Bool). cond b (Some ts) None) is

-- ---- string literals in a row

texts_by : (b : Bool) (n : ℕ) (t : Token) (ts : List Token) → is_text n t.kind ≡ b
    → Takes (text_tokens (texts_in_row (suc n) ts) (suc n)) ts (drop (texts_in_row (suc n) ts) ts)
    → let c = cond b (suc (texts_in_row (suc n) ts)) 0 in Takes (text_tokens c n) (t ∷ ts) (drop c (t ∷ ts))
texts_by true n t ts e h = (text_is n t.kind e, h)
texts_by false n t ts e h = refl

pub texts_taken : (n : ℕ) (ts : List Token) → Takes (text_tokens (texts_in_row n ts) n) ts (drop (texts_in_row n ts) ts)
texts_taken n [] = refl
texts_taken n (t ∷ ts) = texts_by (is_text n t.kind) n t ts refl (texts_taken (suc n) ts)
