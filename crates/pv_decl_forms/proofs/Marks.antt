-- The tokens that a form ends with or goes on with.
use Rattle.std.proofs.Common.{◌≡◌, ℕ, zero, suc, Bool, true, false, cond, List, [], ◌∷◌, length, drop, Option, Some, None, option_and_then, refl, ap, ◌∙◌}
use Rattle.std.proofs.lemmas.Bool.{false≢true}
use Rattle.std.proofs.lemmas.Option.{none-some}
use Rattle.pv_token.specs.declared.token_table.Token.{Token}
use Rattle.pv_token.specs.declared.token_table.TokenKind.{TokenKind}
use Rattle.pv_token.specs.declared.token_table.TokenKind.TheVariants as kind
use Rattle.pv_token.specs.declared.words.Word.TheVariants as word
use Rattle.pv_token.specs.declared.marks.Mark.TheVariants as mark
use Rattle.pv_tree.specs.Syntax.{Trees}
use Rattle.pv_tree.specs.Spelling.{const_tokens, comma_tokens, variadic_tokens, tag_tokens}
use Rattle.pv_tree.specs.Places.{some, may_be_variadic}
use Rattle.pv_expr_forms.specs.Reader.{is_comma, after}
use Rattle.pv_expr_forms.proofs.Runs.{Takes, takes_then}
use Rattle.pv_expr_forms.proofs.Steps.{followed, some_is}
use Rattle.pv_expr_forms.proofs.Marks.{comma_is, after_is}
use Rattle.pv_decl_forms.specs.Pieces.{is_semicolon, is_equals, is_ellipsis, is_open_brace, is_close_brace, is_const, found_in}
use Rattle.pv_decl_forms.specs.Declarators.{variadic_at, consts_in_row}
use Rattle.pv_decl_forms.specs.Reader.{name_of, tag_in, tag_at}

semicolon_is : (k : TokenKind) → is_semicolon k ≡ true → k ≡ kind.Mark mark.Semicolon
semicolon_is (kind.Mark mark.Semicolon) e = refl
semicolon_is _ e = absurd (false≢true e)

equals_is : (k : TokenKind) → is_equals k ≡ true → k ≡ kind.Mark mark.Assign
equals_is (kind.Mark mark.Assign) e = refl
equals_is _ e = absurd (false≢true e)

ellipsis_is : (k : TokenKind) → is_ellipsis k ≡ true → k ≡ kind.Mark mark.Ellipsis
ellipsis_is (kind.Mark mark.Ellipsis) e = refl
ellipsis_is _ e = absurd (false≢true e)

pub open_brace_is : (k : TokenKind) → is_open_brace k ≡ true → k ≡ kind.Mark mark.OpenBrace
open_brace_is (kind.Mark mark.OpenBrace) e = refl
open_brace_is _ e = absurd (false≢true e)

close_brace_is : (k : TokenKind) → is_close_brace k ≡ true → k ≡ kind.Mark mark.CloseBrace
close_brace_is (kind.Mark mark.CloseBrace) e = refl
close_brace_is _ e = absurd (false≢true e)

const_is : (k : TokenKind) → is_const k ≡ true → k ≡ kind.Word word.Const
const_is (kind.Word word.Const) e = refl
const_is _ e = absurd (false≢true e)

pub comma_taken : (ts rest : List Token) → after is_comma ts ≡ Some rest → Takes (kind.Mark mark.Comma ∷ []) ts rest
comma_taken ts rest e = after_is is_comma (kind.Mark mark.Comma) comma_is ts rest e

pub semicolon_taken : (ts rest : List Token) → after is_semicolon ts ≡ Some rest → Takes (kind.Mark mark.Semicolon ∷ []) ts rest
semicolon_taken ts rest e = after_is is_semicolon (kind.Mark mark.Semicolon) semicolon_is ts rest e

pub equals_taken : (ts rest : List Token) → after is_equals ts ≡ Some rest → Takes (kind.Mark mark.Assign ∷ []) ts rest
equals_taken ts rest e = after_is is_equals (kind.Mark mark.Assign) equals_is ts rest e

pub ellipsis_taken : (ts rest : List Token) → after is_ellipsis ts ≡ Some rest → Takes (kind.Mark mark.Ellipsis ∷ []) ts rest
ellipsis_taken ts rest e = after_is is_ellipsis (kind.Mark mark.Ellipsis) ellipsis_is ts rest e

pub open_brace_taken : (ts rest : List Token) → after is_open_brace ts ≡ Some rest → Takes (kind.Mark mark.OpenBrace ∷ []) ts rest
open_brace_taken ts rest e = after_is is_open_brace (kind.Mark mark.OpenBrace) open_brace_is ts rest e

pub close_brace_taken : (ts rest : List Token) → after is_close_brace ts ≡ Some rest → Takes (kind.Mark mark.CloseBrace ∷ []) ts rest
close_brace_taken ts rest e = after_is is_close_brace (kind.Mark mark.CloseBrace) close_brace_is ts rest e

-- where a token of a kind stands, a test for it finds it
pub after_taken : (test : TokenKind → Bool) (k : TokenKind) (ts rest : List Token) → test k ≡ true → Takes (k ∷ []) ts rest
    → after test ts ≡ Some rest
after_taken test k [] rest is h = absurd h
after_taken test k (t ∷ ts) rest is h =
    ap (λ (x : TokenKind). cond (test x) (Some ts) None) h.0 ∙ ap (λ (b : Bool). cond b (Some ts) None) is ∙ ap (λ (x : List Token). let y : Option (List Token) = Some x in y) h.1

-- where it stands not, the test finds nothing
pub after_other : (test : TokenKind → Bool) (k : TokenKind) (t : Token) (ts : List Token) → t.kind ≡ k → test k ≡ false → after test (t ∷ ts) ≡ None
after_other test k t ts e is = ap (λ (x : TokenKind). cond (test x) (Some ts) None) e ∙ ap (λ (b : Bool). cond b (Some ts) None) is

-- ---- words `const` in a row

consts_by : (b : Bool) (t : Token) (ts : List Token) → is_const t.kind ≡ b → Takes (const_tokens (consts_in_row ts)) ts (drop (consts_in_row ts) ts)
    → let c = cond b (suc (consts_in_row ts)) 0 in Takes (const_tokens c) (t ∷ ts) (drop c (t ∷ ts))
consts_by true t ts e h = (const_is t.kind e, h)
consts_by false t ts e h = refl

pub consts_taken : (ts : List Token) → Takes (const_tokens (consts_in_row ts)) ts (drop (consts_in_row ts) ts)
consts_taken [] = refl
consts_taken (t ∷ ts) = consts_by (is_const t.kind) t ts refl (consts_taken ts)

pub length_consts : (n : ℕ) → length (const_tokens n) ≡ n
length_consts zero = refl
length_consts (suc n) = ap suc (length_consts n)

-- ---- a comma, and `, ...`

-- a comma that may be left out
pub comma_found : (o : Option (List Token)) (ts : List Token) → after is_comma ts ≡ o → Takes (comma_tokens (found_in o ts).0) ts (found_in o ts).1
comma_found None ts e = refl
comma_found (Some rest) ts e = comma_taken ts rest e

both_taken : (ts rest : List Token) → option_and_then (after is_ellipsis) (after is_comma ts) ≡ Some rest → Takes (variadic_tokens true) ts rest
both_taken ts rest e =
    let f = followed (after is_ellipsis) (after is_comma ts) rest e in
    takes_then (kind.Mark mark.Comma ∷ []) (kind.Mark mark.Ellipsis ∷ []) ts f.0 rest (comma_taken ts f.0 f.1) (ellipsis_taken f.0 rest f.2)

-- `, ...` that may be left out
abbrev pub Varied : Trees → List Token → Bool × List Token → Type 0
Varied parameters ts x = (may_be_variadic parameters x.0 ≡ true) × Takes (variadic_tokens x.0) ts x.1

varied_found : (parameters : Trees) (ts : List Token) (o : Option (List Token)) → some parameters ≡ true
    → option_and_then (after is_ellipsis) (after is_comma ts) ≡ o
    → Varied parameters ts (found_in o ts)
varied_found parameters ts None s e = (refl, refl)
varied_found parameters ts (Some rest) s e = (s, both_taken ts rest e)

varied_by : (parameters : Trees) (ts : List Token) (b : Bool) → some parameters ≡ b
    → Varied parameters ts (cond b (found_in (option_and_then (after is_ellipsis) (after is_comma ts)) ts) (false, ts))
varied_by parameters ts true s = varied_found parameters ts (option_and_then (after is_ellipsis) (after is_comma ts)) s refl
varied_by parameters ts false s = (refl, refl)

pub varied : (parameters : Trees) (ts : List Token) → Varied parameters ts (variadic_at parameters ts)
unfolding variadic_at
varied parameters ts = varied_by parameters ts (some parameters) refl

-- ---- tags

pub name_is : (k : TokenKind) (n : ℕ) → name_of k ≡ Some n → k ≡ kind.Name n
name_is (kind.Name m) n e = ap (λ (x : ℕ). kind.Name x) (some_is m n e)
name_is _ n e = absurd (none-some n e)

tag_by : (o : Option ℕ) (t : Token) (ts : List Token) → name_of t.kind ≡ o → Takes (tag_tokens (tag_in o t ts).0) (t ∷ ts) (tag_in o t ts).1
tag_by None t ts e = refl
tag_by (Some n) t ts e = (name_is t.kind n e, refl)

pub tag_taken : (ts : List Token) → Takes (tag_tokens (tag_at ts).0) ts (tag_at ts).1
tag_taken [] = refl
tag_taken (t ∷ ts) = tag_by (name_of t.kind) t ts refl
