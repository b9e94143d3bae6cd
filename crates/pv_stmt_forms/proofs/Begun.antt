-- A statement by its first token, and the items that braces enclose.
use Rattle.std.proofs.Common.{◌≡◌, ◌<◌, ◌-◌, ℕ, zero, suc, true, false, cond, List, [], ◌∷◌, Option, Some, None, option_map, refl, sym, ap, ◌∙◌, arith, sub-one}
use Rattle.pv_token.specs.declared.token_table.Token.{Token}
use Rattle.pv_token.specs.declared.token_table.TokenKind.{TokenKind}
use Rattle.pv_token.specs.declared.token_table.TokenKind.TheVariants as kind
use Rattle.pv_token.specs.declared.words.Word.TheVariants as word
use Rattle.pv_token.specs.declared.marks.Mark.TheVariants as mark
use Rattle.pv_tree.specs.Syntax.{Break, Continue, OfStatement}
use Rattle.pv_tree.specs.Grammar.{line_here}
use Rattle.pv_tree.specs.Spells.{Names, begins_type}
use Rattle.pv_expr_forms.specs.Reader.{after}
use Rattle.pv_expr_forms.proofs.Steps.{some_is}
use Rattle.pv_decl_forms.specs.Pieces.{Piece, is_semicolon, is_open_brace}
use Rattle.pv_decl_forms.specs.Reader.{declaration}
use Rattle.pv_stmt_forms.specs.declared.forms.StatementForm.{StatementForm}
use Rattle.pv_stmt_forms.specs.declared.forms.StatementForm.TheVariants as form
use Rattle.pv_stmt_forms.specs.declared.forms.Within.{Within}
use Rattle.pv_stmt_forms.specs.declared.forms.Within.TheVariants as within
use Rattle.pv_stmt_forms.specs.Parts.{form_of, item_in, block_behind}
use Rattle.pv_stmt_forms.specs.Statements.{only_declaration, selection, loop, do_loop, for_loop, switch, item, block, labels_and_statement, switch_block_of, switch_block, simple, return_behind, statement_of, statement_by, Statements, SwitchBlocks, readers}

-- ---- no depth

pub statement_zero : (names : Names) (depth : ℕ) (ts : List Token) → depth ≡ 0 → None ≡ readers names depth Statements ts
unfolding readers
statement_zero names depth ts e = rw e refl

pub switch_zero : (names : Names) (depth : ℕ) (ts : List Token) → depth ≡ 0 → None ≡ readers names depth SwitchBlocks ts
unfolding readers
switch_zero names depth ts e = rw e refl

-- one level of depth more
deeper : (names : Names) (depth : ℕ) (ts : List Token) → 0 < depth
    → statement_by names (depth - 1) (readers names (depth - 1) Statements) (readers names (depth - 1) SwitchBlocks) ts ≡ readers names depth Statements ts
unfolding readers
deeper names zero ts h = absurd (omega arith)
deeper names (suc depth) ts h = rw sub-one refl

switch_deeper : (names : Names) (depth : ℕ) (ts : List Token) → 0 < depth → switch_block names (depth - 1) (readers names (depth - 1) Statements) ts ≡ readers names depth SwitchBlocks ts
unfolding readers
switch_deeper names zero ts h = absurd (omega arith)
switch_deeper names (suc depth) ts h = rw sub-one refl

-- ---- by the form of the first token

abbrev pub by_form : Names → (below line : ℕ) → StatementForm → (all ts : List Token) → Piece
by_form names below line form.Braces all ts = block_behind within.Block names below line ts
by_form names below line form.If all ts = selection names below (readers names below Statements) line ts
by_form names below line form.While all ts = loop names below (readers names below Statements) line ts
by_form names below line form.Do all ts = do_loop names below (readers names below Statements) line ts
by_form names below line form.For all ts = for_loop names below (readers names below Statements) line ts
by_form names below line form.Switch all ts = switch names below (readers names below SwitchBlocks) line ts
by_form names below line form.Break all ts = option_map (λ rest. (OfStatement (Break line), rest)) (after is_semicolon ts)
by_form names below line form.Continue all ts = option_map (λ rest. (OfStatement (Continue line), rest)) (after is_semicolon ts)
by_form names below line form.Return all ts = return_behind names below line ts
by_form names below line form.Plain all ts = simple names below line all

formed : (names : Names) (below line : ℕ) (k : TokenKind) (all ts : List Token)
    → by_form names below line (form_of k) all ts ≡ statement_of names below (readers names below Statements) (readers names below SwitchBlocks) line k all ts
unfolding statement_of block
formed names below line (kind.Mark mark.OpenBrace) all ts = refl
formed names below line (kind.Word word.If) all ts = refl
formed names below line (kind.Word word.While) all ts = refl
formed names below line (kind.Word word.Do) all ts = refl
formed names below line (kind.Word word.For) all ts = refl
formed names below line (kind.Word word.Switch) all ts = refl
formed names below line (kind.Word word.Break) all ts = refl
formed names below line (kind.Word word.Continue) all ts = refl
formed names below line (kind.Word word.Return) all ts = refl
formed names below line _ all ts = refl

pub statement_end : (names : Names) (depth : ℕ) (ts : List Token) → 0 < depth → ts ≡ [] → None ≡ readers names depth Statements ts
unfolding statement_by
statement_end names depth ts h e = rw e (deeper names depth [] h)

-- what is read by the form of the first token is what is read
pub begun : (names : Names) (depth : ℕ) (ts : List Token) (t : Token) (rest : List Token) (f : StatementForm) → 0 < depth → ts ≡ t ∷ rest → form_of t.kind ≡ f
    → by_form names (depth - 1) t.line f ts rest ≡ readers names depth Statements ts
unfolding statement_by
begun names depth ts t rest f h is e =
    ap (λ (all : List Token). by_form names (depth - 1) t.line f all rest) is
    ∙ ap (λ (g : StatementForm). by_form names (depth - 1) t.line g (t ∷ rest) rest) (sym e)
    ∙ formed names (depth - 1) t.line t.kind (t ∷ rest) rest
    ∙ deeper names depth (t ∷ rest) h
    ∙ ap (readers names depth Statements) (sym is)

-- ---- the block of a `switch`

switch_if : (names : Names) (below line : ℕ) (k : TokenKind) (ts rest : List Token) → ◌≡◌ {A = Option (List Token)} (cond (is_open_brace k) (Some ts) None) (Some rest)
    → block_behind within.Switch names below line rest ≡ switch_block_of names below (readers names below Statements) line k ts
unfolding switch_block_of
switch_if names below line (kind.Mark mark.OpenBrace) ts rest e = ap (block_behind within.Switch names below line) (sym (some_is ts rest e))
switch_if names below line _ ts rest e = absurd cc

switch_unless : (names : Names) (below line : ℕ) (k : TokenKind) (ts : List Token) → ◌≡◌ {A = Option (List Token)} (cond (is_open_brace k) (Some ts) None) None
    → None ≡ switch_block_of names below (readers names below Statements) line k ts
unfolding switch_block_of
switch_unless names below line (kind.Mark mark.OpenBrace) ts e = absurd cc
switch_unless names below line _ ts e = refl

switch_on : (names : Names) (below : ℕ) (ts rest : List Token) → after is_open_brace ts ≡ Some rest
    → block_behind within.Switch names below (line_here ts) rest ≡ switch_block names below (readers names below Statements) ts
unfolding switch_block
switch_on names below [] rest e = absurd cc
switch_on names below (t ∷ ts) rest e = switch_if names below t.line t.kind ts rest e

switch_off : (names : Names) (below : ℕ) (ts : List Token) → after is_open_brace ts ≡ None → None ≡ switch_block names below (readers names below Statements) ts
unfolding switch_block
switch_off names below [] e = refl
switch_off names below (t ∷ ts) e = switch_unless names below t.line t.kind ts e

pub switch_begun : (names : Names) (depth : ℕ) (ts rest : List Token) → 0 < depth → after is_open_brace ts ≡ Some rest
    → block_behind within.Switch names (depth - 1) (line_here ts) rest ≡ readers names depth SwitchBlocks ts
switch_begun names depth ts rest h e = switch_on names (depth - 1) ts rest e ∙ switch_deeper names depth ts h

pub switch_not : (names : Names) (depth : ℕ) (ts : List Token) → 0 < depth → after is_open_brace ts ≡ None → None ≡ readers names depth SwitchBlocks ts
switch_not names depth ts h e = switch_off names (depth - 1) ts e ∙ switch_deeper names depth ts h

-- ---- items

pub item_declared : (w : Within) (names : Names) (depth : ℕ) (ts : List Token) → begins_type names ts ≡ true → only_declaration (declaration names depth ts) ≡ item_in w names depth ts
unfolding item
item_declared w names depth ts e = rw e refl

pub item_stated : (w : Within) (names : Names) (depth : ℕ) (ts : List Token) → begins_type names ts ≡ false → w ≡ within.Block → readers names depth Statements ts ≡ item_in w names depth ts
unfolding item
item_stated w names depth ts e is = rw (is, e) refl

pub item_labelled : (w : Within) (names : Names) (depth : ℕ) (ts : List Token) → begins_type names ts ≡ false → w ≡ within.Switch
    → labels_and_statement names depth (readers names depth Statements) ts ≡ item_in w names depth ts
unfolding item
item_labelled w names depth ts e is = rw (is, e) refl
