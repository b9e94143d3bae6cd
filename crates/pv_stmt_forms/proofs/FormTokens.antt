-- The tokens that a form of a statement ends with or goes on with.
use Rattle.std.proofs.Common.{◌≡◌, Bool, true, false, List, [], ◌∷◌, Option, Some, None, refl, ap, ◌∙◌}
use Rattle.pv_token.specs.declared.token_table.Token.{Token}
use Rattle.pv_token.specs.declared.token_table.TokenKind.{TokenKind}
use Rattle.pv_token.specs.declared.token_table.TokenKind.TheVariants as kind
use Rattle.pv_token.specs.declared.words.Word.TheVariants as word
use Rattle.pv_token.specs.declared.marks.Mark.TheVariants as mark
use Rattle.pv_tree.specs.Syntax.{Tree, Trees, OptionalTree}
use Rattle.pv_expr_forms.specs.Reader.{is_open, after}
use Rattle.pv_expr_forms.proofs.Runs.{Takes}
use Rattle.pv_expr_forms.proofs.Steps.{mapped}
use Rattle.pv_expr_forms.proofs.Marks.{open_is, after_is}
use Rattle.pv_decl_forms.specs.Pieces.{Piece, is_close_brace}
use Rattle.pv_decl_forms.proofs.Marks.{close_brace_taken}
use Rattle.pv_stmt_forms.specs.Statements.{is_else, is_while, before, optional_before, block_end}

else_is : (k : TokenKind) → is_else k ≡ true → k ≡ kind.Word word.Else
else_is (kind.Word word.Else) e = refl
else_is _ e = absurd cc

while_is : (k : TokenKind) → is_while k ≡ true → k ≡ kind.Word word.While
while_is (kind.Word word.While) e = refl
while_is _ e = absurd cc

pub else_taken : (ts rest : List Token) → after is_else ts ≡ Some rest → Takes (kind.Word word.Else ∷ []) ts rest
else_taken ts rest e = after_is is_else (kind.Word word.Else) else_is ts rest e

pub while_taken : (ts rest : List Token) → after is_while ts ≡ Some rest → Takes (kind.Word word.While ∷ []) ts rest
while_taken ts rest e = after_is is_while (kind.Word word.While) while_is ts rest e

pub open_taken : (ts rest : List Token) → after is_open ts ≡ Some rest → Takes (kind.Mark mark.OpenParen ∷ []) ts rest
open_taken ts rest e = after_is is_open (kind.Mark mark.OpenParen) open_is ts rest e

-- no `else` stands here
abbrev pub NoElse : List Token → Type 0
NoElse [] = Unit {0}
NoElse (t ∷ ts) = is_else t.kind ≡ false

pub else_none : (ts : List Token) → NoElse ts → after is_else ts ≡ None
else_none [] n = refl
else_none (t ∷ ts) n = rw n refl

pub no_else_on : (k : TokenKind) (t : Token) (ts : List Token) → t.kind ≡ k → is_else k ≡ false → NoElse (t ∷ ts)
no_else_on k t ts e n = ap is_else e ∙ n

-- ---- what was read to behind a token

pub before_is : (test : TokenKind → Bool) (o : Piece) (a : Tree) (rest : List Token) → before test o ≡ Some (a, rest)
    → (mid : List Token) × (o ≡ Some (a, mid)) × (after test mid ≡ Some rest)
unfolding before
before_is test None a rest e = absurd cc
before_is test (Some x) a rest e =
    let m = mapped (λ (y : List Token). let z : Tree × List Token = (x.0, y) in z) (after test x.1) (a, rest) e in (
      x.1,
      ap (λ (y : Tree × List Token). let z : Piece = Some (y.0, x.1) in z) m.2,
      m.1 ∙ ap (λ (y : Tree × List Token). let z : Option (List Token) = Some y.1 in z) m.2,
    )

pub optional_before_is : (test : TokenKind → Bool) (x : OptionalTree × List Token) (o : OptionalTree) (rest : List Token)
    → optional_before test x ≡ Some (o, rest) → (after test x.1 ≡ Some rest) × (x.0 ≡ o)
unfolding optional_before
optional_before_is test x o rest e =
    let m = mapped (λ (y : List Token). let z : OptionalTree × List Token = (x.0, y) in z) (after test x.1) (o, rest) e in
    (m.1 ∙ ap (λ (y : OptionalTree × List Token). let z : Option (List Token) = Some y.1 in z) m.2, ap (λ (y : OptionalTree × List Token). y.0) m.2)

pub block_end_is : (make : Trees → Tree) (x : Trees × List Token) (a : Tree) (rest : List Token) → block_end make x ≡ Some (a, rest)
    → Takes (kind.Mark mark.CloseBrace ∷ []) x.1 rest × (make x.0 ≡ a)
unfolding block_end
block_end_is make x a rest e =
    let m = mapped (λ (y : List Token). let z : Tree × List Token = (make x.0, y) in z) (after is_close_brace x.1) (a, rest) e in
    let found : after is_close_brace x.1 ≡ Some rest = m.1 ∙ ap (λ (y : Tree × List Token). let z : Option (List Token) = Some y.1 in z) m.2 in
    (close_brace_taken x.1 rest found, ap (λ (y : Tree × List Token). y.0) m.2)
