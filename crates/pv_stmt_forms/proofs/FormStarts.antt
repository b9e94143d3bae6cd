-- The first token of a statement, of a label and of a declaration, and what begins no expression.
use Rattle.std.proofs.Common.{◌≡◌, ◌≤◌, ℕ, zero, suc, Bool, true, false, List, [], ◌∷◌, ◌++◌, Some, None, refl, ap, ◌∙◌, arith}
use Rattle.pv_token.specs.declared.token_table.Token.{Token}
use Rattle.pv_token.specs.declared.token_table.TokenKind.{TokenKind}
use Rattle.pv_token.specs.declared.token_table.TokenKind.TheVariants as kind
use Rattle.pv_token.specs.declared.words.Word.TheVariants as word
use Rattle.pv_token.specs.declared.marks.Mark.TheVariants as mark
use Rattle.pv_tree.specs.Syntax.{ExpressionTree, Binary, DeclarationTree, Declaration, StatementTree, Block, ExpressionStatement, If, IfElse, While, DoWhile, For, ForDeclaration, Switch, Case, Default, Break, Continue, Return, OfExpression, OfStatement, Trees, NoTrees, Then, OptionalTree, Absent, Present}
use Rattle.pv_tree.specs.Depths.{expression_depth}
use Rattle.pv_tree.specs.Levels.{rank}
use Rattle.pv_tree.specs.Spelling.{with_semicolon, in_parens, expression_tokens, declaration_tokens, statement_tokens, trees_tokens, listed_tokens, optional_tokens}
use Rattle.pv_tree.specs.Spells.{Names, kind_begins_type, begins_type, Fits}
use Rattle.pv_tree.specs.Places.{Labels, Expressions, is_whole_statement, is_declaration_tree, some}
use Rattle.pv_tree.specs.Fitting.{DeclarationFits, StatementFits, RowFits, OptionalFits}
use Rattle.pv_expr_forms.specs.Reader.{Reads as Expressing, head_of as begun_of, head as begun, deeper, prefix_behind, read}
use Rattle.pv_expr_forms.proofs.Runs.{Takes, takes_parts}
use Rattle.pv_expr_forms.proofs.Operators.{binary_rank_in}
use Rattle.pv_expr_forms.proofs.Ends.{Stops as Ends, stops_at}
use Rattle.pv_expr_forms.proofs.Wholes.{exact_by}
use Rattle.pv_expr_forms.proofs.Whole.{whole}
use Rattle.pv_expr_forms.proofs.Beginnings.{begins_none}
use Rattle.pv_decl_forms.specs.Pieces.{Piece}
use Rattle.pv_decl_forms.proofs.Beginnings.{first_specifiers}
use Rattle.pv_stmt_forms.specs.Statements.{is_else, label_of, label, statement_of, simple}
use Rattle.pv_stmt_forms.proofs.FormTokens.{NoElse}

-- ---- what begins no expression

abbrev pub begins_form : TokenKind → Bool
begins_form (kind.Mark mark.OpenBrace) = true
begins_form (kind.Mark mark.CloseBrace) = true
begins_form (kind.Mark mark.CloseParen) = true
begins_form (kind.Mark mark.Semicolon) = true
begins_form (kind.Word word.If) = true
begins_form (kind.Word word.Else) = true
begins_form (kind.Word word.While) = true
begins_form (kind.Word word.Do) = true
begins_form (kind.Word word.For) = true
begins_form (kind.Word word.Switch) = true
begins_form (kind.Word word.Case) = true
begins_form (kind.Word word.Default) = true
begins_form (kind.Word word.Break) = true
begins_form (kind.Word word.Continue) = true
begins_form (kind.Word word.Return) = true
begins_form _ = false

begun_none : (names : Names) (r : Expressing) (below line : ℕ) (k : TokenKind) (ts : List Token) → begins_form k ≡ true
    → begun_of names r below line k ts ≡ None
unfolding begun_of prefix_behind
begun_none names r below line (kind.Mark mark.OpenBrace) ts e = refl
begun_none names r below line (kind.Mark mark.CloseBrace) ts e = refl
begun_none names r below line (kind.Mark mark.CloseParen) ts e = refl
begun_none names r below line (kind.Mark mark.Semicolon) ts e = refl
begun_none names r below line (kind.Word word.If) ts e = refl
begun_none names r below line (kind.Word word.Else) ts e = refl
begun_none names r below line (kind.Word word.While) ts e = refl
begun_none names r below line (kind.Word word.Do) ts e = refl
begun_none names r below line (kind.Word word.For) ts e = refl
begun_none names r below line (kind.Word word.Switch) ts e = refl
begun_none names r below line (kind.Word word.Case) ts e = refl
begun_none names r below line (kind.Word word.Default) ts e = refl
begun_none names r below line (kind.Word word.Break) ts e = refl
begun_none names r below line (kind.Word word.Continue) ts e = refl
begun_none names r below line (kind.Word word.Return) ts e = refl
begun_none names r below line _ ts e = absurd cc

pub read_none : (names : Names) (depth level : ℕ) (t : Token) (ts : List Token) → begins_form t.kind ≡ true
    → read names depth level (t ∷ ts) ≡ None
unfolding read deeper begun
read_none names zero level t ts s = refl
read_none names (suc depth) level t ts s = rw (begun_none names (read names depth) depth t.line t.kind ts s) refl

begins_by : (names : Names) (depth : ℕ) (b : Bool) (t : Token) (ts : List Token) (y : ExpressionTree × List Token) → begins_form t.kind ≡ b
    → read names depth 1 (t ∷ ts) ≡ Some y → b ≡ false
begins_by names depth false t ts y e h = refl
begins_by names depth true t ts y e h = absurd (let none = read_none names depth 1 t ts e in cc)

-- each expression is one of the loosest level
pub rank_pos : (a : ExpressionTree) → 1 ≤ rank a
rank_pos (Binary line op a b) = omega (arith, (binary_rank_in op).0)
rank_pos _ = omega arith

-- an expression that ends where no comma follows
pub expression_begins : (names : Names) (a : ExpressionTree) (t : Token) (ts rest : List Token) → Fits names a (t ∷ ts)
    → Takes (expression_tokens a) (t ∷ ts) rest → Ends 1 rest → begins_form t.kind ≡ false
expression_begins names a t ts rest f h s =
    let e = exact_by names a (t ∷ ts) rest (whole names a (t ∷ ts) f rest h) (expression_depth a) 1 (rank_pos a) (omega arith) s in
    begins_by names (expression_depth a) (begins_form t.kind) t ts (a, rest) refl e

-- a statement that begins with no word of its own
pub plain_statement : (names : Names) (below : ℕ) (r b : List Token → Piece) (line : ℕ) (k : TokenKind) (all ts : List Token) → begins_form k ≡ false
    → statement_of names below r b line k all ts ≡ simple names below line all
unfolding statement_of
plain_statement names below r b line (kind.Mark mark.OpenBrace) all ts e = absurd cc
plain_statement names below r b line (kind.Word word.If) all ts e = absurd cc
plain_statement names below r b line (kind.Word word.While) all ts e = absurd cc
plain_statement names below r b line (kind.Word word.Do) all ts e = absurd cc
plain_statement names below r b line (kind.Word word.For) all ts e = absurd cc
plain_statement names below r b line (kind.Word word.Switch) all ts e = absurd cc
plain_statement names below r b line (kind.Word word.Break) all ts e = absurd cc
plain_statement names below r b line (kind.Word word.Continue) all ts e = absurd cc
plain_statement names below r b line (kind.Word word.Return) all ts e = absurd cc
plain_statement names below r b line _ all ts e = refl

-- ---- labels

abbrev pub begins_label : TokenKind → Bool
begins_label (kind.Word word.Case) = true
begins_label (kind.Word word.Default) = true
begins_label _ = false

abbrev pub NoLabel : List Token → Type 0
NoLabel [] = Unit {0}
NoLabel (t ∷ ts) = begins_label t.kind ≡ false

label_of_none : (names : Names) (depth line : ℕ) (k : TokenKind) (ts : List Token) → begins_label k ≡ false → label_of names depth line k ts ≡ None
unfolding label_of
label_of_none names depth line (kind.Word word.Case) ts e = absurd cc
label_of_none names depth line (kind.Word word.Default) ts e = absurd cc
label_of_none names depth line _ ts e = refl

pub label_none : (names : Names) (depth : ℕ) (here : List Token) → NoLabel here → label names depth here ≡ None
unfolding label
label_none names depth [] e = refl
label_none names depth (t ∷ ts) e = label_of_none names depth t.line t.kind ts e

-- ---- the first token of a statement

pub record Opening (names : Names) (here : List Token) : Type 0 where
  pub no_type : begins_type names here ≡ false
  pub no_else : NoElse here
  pub no_label : NoLabel here

pub opening_at : (names : Names) (k : TokenKind) (t : Token) (ts : List Token) → t.kind ≡ k → kind_begins_type names k ≡ false → is_else k ≡ false
    → begins_label k ≡ false → Opening names (t ∷ ts)
opening_at names k t ts e n o l = record { no_type = ap (kind_begins_type names) e ∙ n; no_else = ap is_else e ∙ o; no_label = ap begins_label e ∙ l }

form_no_else : (k : TokenKind) → begins_form k ≡ false → is_else k ≡ false
form_no_else (kind.Word word.Else) e = absurd cc
form_no_else _ e = refl

form_no_label : (k : TokenKind) → begins_form k ≡ false → begins_label k ≡ false
form_no_label (kind.Word word.Case) e = absurd cc
form_no_label (kind.Word word.Default) e = absurd cc
form_no_label _ e = refl

expression_opens : (names : Names) (a : ExpressionTree) (here rest : List Token) → Fits names a here → Takes (expression_tokens a) here rest → Ends 1 rest
    → Opening names here
expression_opens names a [] rest f h s = record { no_type = refl; no_else = tt; no_label = tt }
expression_opens names a (t ∷ ts) rest f h s =
    let b = expression_begins names a t ts rest f h s in
    record { no_type = begins_none names a (t ∷ ts) rest f h; no_else = form_no_else t.kind b; no_label = form_no_label t.kind b }

-- an expression that may be left out, before a semicolon
pub optional_opens : (names : Names) (o : OptionalTree) (here rest : List Token) → OptionalFits names.is_type (Fits names) Expressions o here
    → Takes (with_semicolon (optional_tokens o)) here rest → Opening names here
optional_opens names Absent [] rest f h = absurd h
optional_opens names Absent (t ∷ ts) rest f h = opening_at names (kind.Mark mark.Semicolon) t ts h.0 refl refl refl
optional_opens names (Present (OfExpression a)) here rest f h =
    let p = takes_parts (expression_tokens a) (kind.Mark mark.Semicolon ∷ []) here rest h in
    expression_opens names a here p.0 f.1 p.1 (semicolon_ends p.0 rest p.2)
  where
    semicolon_ends : (mid end : List Token) → Takes (kind.Mark mark.Semicolon ∷ []) mid end → Ends 1 mid
    semicolon_ends [] end h = absurd h
    semicolon_ends (t ∷ ts) end h = stops_at (kind.Mark mark.Semicolon) 1 t ts h.0 (omega arith)
optional_opens names (Present _) here rest f h = absurd (let e : false ≡ true = f.0 in cc)

-- a statement that begins with a token of its own
opens_with : (names : Names) (k : TokenKind) (ks : List TokenKind) (here rest : List Token) → Takes (k ∷ ks) here rest → kind_begins_type names k ≡ false
    → is_else k ≡ false → begins_label k ≡ false → Opening names here
opens_with names k ks [] rest h n o l = absurd h
opens_with names k ks (t ∷ ts) rest h n o l = opening_at names k t ts h.0 n o l

pub statement_opens : (names : Names) (s : StatementTree) (here rest : List Token) → is_whole_statement s ≡ true
    → StatementFits names.is_type (Fits names) s here → Takes (statement_tokens s) here rest → Opening names here
statement_opens names (Block line items) here rest w f h =
    opens_with names (kind.Mark mark.OpenBrace) (trees_tokens items ++ kind.Mark mark.CloseBrace ∷ []) here rest h refl refl refl
statement_opens names (ExpressionStatement line a) here rest w f h = optional_opens names a here rest f.1 h
statement_opens names (If line a body) here rest w f h =
    opens_with names (kind.Word word.If) (in_parens (expression_tokens a) ++ statement_tokens body) here rest h refl refl refl
statement_opens names (IfElse line a body other) here rest w f h =
    opens_with names (kind.Word word.If) (in_parens (expression_tokens a) ++ (statement_tokens body ++ (kind.Word word.Else ∷ statement_tokens other))) here rest h refl refl refl
statement_opens names (While line a body) here rest w f h =
    opens_with names (kind.Word word.While) (in_parens (expression_tokens a) ++ statement_tokens body) here rest h refl refl refl
statement_opens names (DoWhile line body a) here rest w f h =
    opens_with names (kind.Word word.Do) (statement_tokens body ++ (kind.Word word.While ∷ with_semicolon (in_parens (expression_tokens a)))) here rest h refl refl refl
statement_opens names (For line first condition step body) here rest w f h =
    opens_with names (kind.Word word.For) (in_parens (with_semicolon (optional_tokens first) ++ (with_semicolon (optional_tokens condition) ++ optional_tokens step)) ++ statement_tokens body) here rest h refl refl refl
statement_opens names (ForDeclaration line declaration condition step body) here rest w f h =
    opens_with names (kind.Word word.For) (in_parens (declaration_tokens declaration ++ (with_semicolon (optional_tokens condition) ++ optional_tokens step)) ++ statement_tokens body) here rest h refl refl refl
statement_opens names (Switch line a block) here rest w f h =
    opens_with names (kind.Word word.Switch) (in_parens (expression_tokens a) ++ statement_tokens block) here rest h refl refl refl
statement_opens names (Break line) here rest w f h =
    opens_with names (kind.Word word.Break) (kind.Mark mark.Semicolon ∷ []) here rest h refl refl refl
statement_opens names (Continue line) here rest w f h =
    opens_with names (kind.Word word.Continue) (kind.Mark mark.Semicolon ∷ []) here rest h refl refl refl
statement_opens names (Return line a) here rest w f h =
    opens_with names (kind.Word word.Return) (with_semicolon (optional_tokens a)) here rest h refl refl refl
statement_opens names _ here rest w f h = absurd cc

-- ---- the first token of a declaration

pub declaration_begins : (names : Names) (d : DeclarationTree) (here rest : List Token) → is_declaration_tree d ≡ true
    → DeclarationFits names.is_type (Fits names) d here → Takes (declaration_tokens d) here rest → begins_type names here ≡ true
declaration_begins names (Declaration line specs declared) here rest s f h =
    let p = takes_parts (trees_tokens specs ++ listed_tokens declared) (kind.Mark mark.Semicolon ∷ []) here rest h in
    let q = takes_parts (trees_tokens specs) (listed_tokens declared) here p.0 p.1 in
    first_specifiers names specs here q.0 f.1 f.2 q.1
declaration_begins names _ here rest s f h = absurd cc

type_no_else : (names : Names) (k : TokenKind) → kind_begins_type names k ≡ true → is_else k ≡ false
type_no_else names (kind.Word word.Else) e = absurd cc
type_no_else names _ e = refl

pub type_before : (names : Names) (here : List Token) → begins_type names here ≡ true → NoElse here
type_before names [] e = tt
type_before names (t ∷ ts) e = type_no_else names t.kind e

-- ---- the first token of labels

label_no_else : (k : TokenKind) → begins_label k ≡ true → is_else k ≡ false
label_no_else (kind.Word word.Else) e = absurd cc
label_no_else _ e = refl

label_no_type : (names : Names) (k : TokenKind) → begins_label k ≡ true → kind_begins_type names k ≡ false
label_no_type names (kind.Word word.Case) e = refl
label_no_type names (kind.Word word.Default) e = refl
label_no_type names _ e = absurd cc

pub record Labelling (names : Names) (here : List Token) : Type 0 where
  pub no_type : begins_type names here ≡ false
  pub no_else : NoElse here

labelling_at : (names : Names) (k : TokenKind) (ks : List TokenKind) (here rest : List Token) → Takes (k ∷ ks) here rest → begins_label k ≡ true
    → Labelling names here
labelling_at names k ks [] rest h l = absurd h
labelling_at names k ks (t ∷ ts) rest h l =
    let b : begins_label t.kind ≡ true = ap begins_label h.0 ∙ l in
    record { no_type = label_no_type names t.kind b; no_else = label_no_else t.kind b }

pub labels_open : (names : Names) (labels : Trees) (here rest : List Token) → some labels ≡ true
    → RowFits names.is_type (Fits names) Labels labels here → Takes (trees_tokens labels) here rest → Labelling names here
labels_open names NoTrees here rest s f h = absurd cc
labels_open names (Then NoTrees (OfStatement (Case line a))) here rest s f h = labelling_at names (kind.Word word.Case) (expression_tokens a ++ kind.Mark mark.Colon ∷ []) here rest h refl
labels_open names (Then NoTrees (OfStatement (Default line))) here rest s f h = labelling_at names (kind.Word word.Default) (kind.Mark mark.Colon ∷ []) here rest h refl
labels_open names (Then NoTrees _) here rest s f h = absurd (let e : false ≡ true = f.1 in cc)
labels_open names (Then (Then before other) last) here rest s f h =
    let p = takes_parts (trees_tokens (Then before other)) _ here rest h in
    labels_open names (Then before other) here p.0 refl f.0 p.1
