-- A bridge: reading statements from the left, on lists (6.8): the longest of at most so much depth. A node takes its parts from one level of depth less;
-- labels, which are no nodes, from its own.
use Rattle.std.specs.Prelude.{ℕ, zero, suc, Bool, true, false, List, [], ◌∷◌, Option, Some, None, option_map, option_and_then, if◌then◌else◌}
use Rattle.pv_token.specs.declared.token_table.Token.{Token}
use Rattle.pv_token.specs.declared.token_table.TokenKind.{TokenKind}
use Rattle.pv_token.specs.declared.token_table.TokenKind.TheVariants as kind
use Rattle.pv_token.specs.declared.words.Word.TheVariants as word
use Rattle.pv_token.specs.declared.marks.Mark.TheVariants as mark
use Rattle.pv_tree.specs.Syntax.{Block, ExpressionStatement, If, IfElse, While, DoWhile, For, ForDeclaration, Switch, SwitchBlock, Labelled, Case, Default, Break, Continue, Return, Tree, OfExpression, OfStatement, Trees, NoTrees, OptionalTree}
use Rattle.pv_tree.specs.Grammar.{line_here}
use Rattle.pv_tree.specs.Spells.{Names, begins_type}
use Rattle.pv_tree.specs.Tables.{as_expression, as_declaration, as_statement}
use Rattle.pv_tree.specs.Places.{is_declaration_tree, ends_open, some}
use Rattle.pv_expr_forms.specs.Reader.{is_open, is_close, is_colon, after, read}
use Rattle.pv_decl_forms.specs.Pieces.{Piece, is_semicolon, is_close_brace, part_if_any, row}
use Rattle.pv_decl_forms.specs.Reader.{declaration}

-- ---- words that a form goes on with

-- the word `else` (6.4.1p1)
abbrev pub is_else : TokenKind → Bool
is_else (kind.Word word.Else) = true
is_else _ = false

-- the word `while` (6.4.1p1)
abbrev pub is_while : TokenKind → Bool
is_while (kind.Word word.While) = true
is_while _ = false

-- ---- parts

-- an expression of a level
abbrev pub expression : Names → (depth level : ℕ) → List Token → Piece
expression names depth level ts = option_map (λ x. (OfExpression x.0, x.1)) (read names depth level ts)

-- what is read, to behind a token of a kind
unfoldable pub before : (TokenKind → Bool) → Piece → Piece
before test None = None
before test (Some x) = option_map (λ rest. (x.0, rest)) (after test x.1)

-- a part that may be left out, to behind a token of a kind
unfoldable pub optional_before : (TokenKind → Bool) → OptionalTree × List Token → Option (OptionalTree × List Token)
optional_before test x = option_map (λ rest. (x.0, rest)) (after test x.1)

-- an expression in parentheses (6.8.4p1, 6.8.5p1)
unfoldable pub condition : Names → (depth : ℕ) → List Token → Piece
condition names depth ts = option_and_then (λ rest. before is_close (expression names depth 1 rest)) (after is_open ts)

-- an expression, if there is one, to behind a token of a kind (6.8.3p1, 6.8.5p1)
unfoldable pub expression_before : Names → (depth : ℕ) → (TokenKind → Bool) → List Token → Option (OptionalTree × List Token)
expression_before names depth test ts = optional_before test (part_if_any ts (expression names depth 1 ts))

-- a declaration (6.7p1), and no head of a function
unfoldable pub only_declaration : Piece → Piece
only_declaration None = None
only_declaration (Some x) = if is_declaration_tree (as_declaration x.0) then Some x else None

-- ---- selection and iteration (6.8.4, 6.8.5)

-- 6.8.4p1: once the second statement of an `if` is read
abbrev pub second : (line : ℕ) → (a body : Tree) → List Token → Piece → Piece
second line a body ts None = Some (OfStatement (If line (as_expression a) (as_statement body)), ts)
second line a body ts (Some x) = Some (OfStatement (IfElse line (as_expression a) (as_statement body) (as_statement x.0)), x.1)

-- once the first statement of an `if` is read. One that ends with an `if` without `else` is followed by none: what stands there was too deep for
-- that `if`, and is nobody's (6.8.4.1p3)
unfoldable pub else_part : (List Token → Piece) → (line : ℕ) → (a body : Tree) → List Token → Piece
else_part read line a body ts =
    if ends_open (as_statement body)
    then Some (OfStatement (If line (as_expression a) (as_statement body)), ts)
    else second line a body ts (option_and_then read (after is_else ts))

-- behind `if` (6.8.4p1)
unfoldable pub selection : Names → (below : ℕ) → (List Token → Piece) → (line : ℕ) → List Token → Piece
selection names below read line ts = option_and_then (λ a. option_and_then (λ x. else_part read line a.0 x.0 x.1) (read a.1)) (condition names below ts)

-- behind `while` (6.8.5p1)
unfoldable pub loop : Names → (below : ℕ) → (List Token → Piece) → (line : ℕ) → List Token → Piece
loop names below read line ts =
    option_and_then (λ a. option_map (λ x. (OfStatement (While line (as_expression a.0) (as_statement x.0)), x.1)) (read a.1)) (condition names below ts)

-- behind the body of a `do` (6.8.5p1)
unfoldable pub do_end : Names → (below line : ℕ) → (body : Tree) → List Token → Piece
do_end names below line body ts =
    option_and_then (λ rest. before is_semicolon (option_map (λ a. (OfStatement (DoWhile line (as_statement body) (as_expression a.0)), a.1)) (condition names below rest))) (after is_while ts)

-- behind `do` (6.8.5p1)
unfoldable pub do_loop : Names → (below : ℕ) → (List Token → Piece) → (line : ℕ) → List Token → Piece
do_loop names below read line ts = option_and_then (λ x. do_end names below line x.0 x.1) (read ts)

-- behind the first part of a `for`: its condition, its step and its body (6.8.5p1)
unfoldable pub for_rest : Names → (below : ℕ) → (List Token → Piece) → (make : OptionalTree → OptionalTree → Tree → Tree) → List Token → Piece
for_rest names below read make ts =
    option_and_then (λ c. option_and_then (λ s. option_map (λ x. (make c.0 s.0 x.0, x.1)) (read s.1)) (expression_before names below is_close c.1))
    (expression_before names below is_semicolon ts)

-- behind the `(` of a `for` (6.8.5p1)
unfoldable pub for_parts : Names → (below : ℕ) → (List Token → Piece) → (line : ℕ) → List Token → Piece
for_parts names below read line ts =
    if begins_type names ts
    then option_and_then (λ d. for_rest names below read (λ c s x. OfStatement (ForDeclaration line (as_declaration d.0) c s (as_statement x))) d.1) (only_declaration (declaration names below ts))
    else option_and_then (λ f. for_rest names below read (λ c s x. OfStatement (For line f.0 c s (as_statement x))) f.1) (expression_before names below is_semicolon ts)

-- behind `for` (6.8.5p1)
unfoldable pub for_loop : Names → (below : ℕ) → (List Token → Piece) → (line : ℕ) → List Token → Piece
for_loop names below read line ts = option_and_then (λ rest. for_parts names below read line rest) (after is_open ts)

-- behind `switch`, where `block` reads the block (6.8.4p1)
unfoldable pub switch : Names → (below : ℕ) → (block : List Token → Piece) → (line : ℕ) → List Token → Piece
switch names below block line ts =
    option_and_then (λ a. option_map (λ x. (OfStatement (Switch line (as_expression a.0) (as_statement x.0)), x.1)) (block a.1)) (condition names below ts)

-- ---- blocks (6.8.2)

-- 6.8.2p1: the brace that closes a block
unfoldable pub block_end : (make : Trees → Tree) → Trees × List Token → Piece
block_end make x = option_map (λ rest. (make x.0, rest)) (after is_close_brace x.1)

-- what may stand in a block: a declaration wherever a token that begins one stands (6.7p1)
unfoldable pub item : Names → (depth : ℕ) → (List Token → Piece) → List Token → Piece
item names depth read ts = if begins_type names ts then only_declaration (declaration names depth ts) else read ts

-- behind `{` (6.8.2p1)
unfoldable pub block : Names → (below : ℕ) → (List Token → Piece) → (line : ℕ) → List Token → Piece
block names below read line ts = block_end (λ items. OfStatement (Block line items)) (row (item names below read) NoTrees ts)

-- ---- labels and the block of a `switch` (6.8.1, 6.8.4.2)

-- 6.8.1p1: the label that a token begins
unfoldable pub label_of : Names → (depth line : ℕ) → TokenKind → List Token → Piece
label_of names depth line (kind.Word word.Case) ts =
    before is_colon (option_map (λ a. (OfStatement (Case line (as_expression a.0)), a.1)) (expression names depth 3 ts))
label_of names depth line (kind.Word word.Default) ts = option_map (λ rest. (OfStatement (Default line), rest)) (after is_colon ts)
label_of names depth line _ ts = None

-- 6.8.1p1: a label
unfoldable pub label : Names → (depth : ℕ) → List Token → Piece
label names depth [] = None
label names depth (t ∷ ts) = label_of names depth t.line t.kind ts

-- once labels are read (6.8.1p1)
unfoldable pub with_labels : (List Token → Piece) → (line : ℕ) → Trees × List Token → Piece
with_labels read line x = if some x.0 then option_map (λ s. (OfStatement (Labelled line x.0 (as_statement s.0)), s.1)) (read x.1) else read x.1

-- labels and a statement, or a statement alone (6.8.1p1)
unfoldable pub labels_and_statement : Names → (depth : ℕ) → (List Token → Piece) → List Token → Piece
labels_and_statement names depth read ts = with_labels read (line_here ts) (row (label names depth) NoTrees ts)

-- the block of a `switch`, by its first token
unfoldable pub switch_block_of : Names → (below : ℕ) → (List Token → Piece) → (line : ℕ) → TokenKind → List Token → Piece
switch_block_of names below read line (kind.Mark mark.OpenBrace) ts =
    block_end (λ items. OfStatement (SwitchBlock line items)) (row (item names below (labels_and_statement names below read)) NoTrees ts)
switch_block_of names below read line _ ts = None

-- the block of a `switch` (6.8.4.2), where alone labels stand
unfoldable pub switch_block : Names → (below : ℕ) → (List Token → Piece) → List Token → Piece
switch_block names below read [] = None
switch_block names below read (t ∷ ts) = switch_block_of names below read t.line t.kind ts

-- ---- all statements

-- an expression statement, or `;` alone (6.8.3)
unfoldable pub simple : Names → (below line : ℕ) → List Token → Piece
simple names below line ts = option_map (λ x. (OfStatement (ExpressionStatement line x.0), x.1)) (expression_before names below is_semicolon ts)

-- behind `return` (6.8.6.4)
unfoldable pub return_behind : Names → (below line : ℕ) → List Token → Piece
return_behind names below line ts = option_map (λ x. (OfStatement (Return line x.0), x.1)) (expression_before names below is_semicolon ts)

-- by the first token (6.8p1): `all` are the tokens from it on, `ts` those behind it
unfoldable pub statement_of : Names → (below : ℕ) → (read block : List Token → Piece) → (line : ℕ) → TokenKind → (all ts : List Token) → Piece
statement_of names below read switched line (kind.Mark mark.OpenBrace) all ts = block names below read line ts
statement_of names below read switched line (kind.Word word.If) all ts = selection names below read line ts
statement_of names below read switched line (kind.Word word.While) all ts = loop names below read line ts
statement_of names below read switched line (kind.Word word.Do) all ts = do_loop names below read line ts
statement_of names below read switched line (kind.Word word.For) all ts = for_loop names below read line ts
statement_of names below read switched line (kind.Word word.Switch) all ts = switch names below switched line ts
statement_of names below read switched line (kind.Word word.Break) all ts = option_map (λ rest. (OfStatement (Break line), rest)) (after is_semicolon ts)
statement_of names below read switched line (kind.Word word.Continue) all ts = option_map (λ rest. (OfStatement (Continue line), rest)) (after is_semicolon ts)
statement_of names below read switched line (kind.Word word.Return) all ts = return_behind names below line ts
statement_of names below read switched line _ all ts = simple names below line all

-- a statement (6.8p1), by what reads those within
unfoldable pub statement_by : Names → (below : ℕ) → (read block : List Token → Piece) → List Token → Piece
statement_by names below read switched [] = None
statement_by names below read switched (t ∷ ts) = statement_of names below read switched t.line t.kind (t ∷ ts) ts

-- what is read, each a node: a statement that stands alone (6.8p1), or the block of a `switch` (6.8.4.2)
pub data Form : Type 0 where
  Statements : Form
  SwitchBlocks : Form

-- one of these forms, of at most so much depth
unfoldable pub readers : Names → (depth : ℕ) → Form → List Token → Piece
readers names zero form ts = None
readers names (suc below) Statements ts = statement_by names below (readers names below Statements) (readers names below SwitchBlocks) ts
readers names (suc below) SwitchBlocks ts = switch_block names below (readers names below Statements) ts

-- the longest statement (6.8) of at most so much depth
abbrev pub statement : Names → (depth : ℕ) → List Token → Piece
statement names depth ts = readers names depth Statements ts
