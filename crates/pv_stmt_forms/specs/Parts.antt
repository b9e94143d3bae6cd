-- A bridge: what the code asks for by names of its own, in the words of the reader.
use Rattle.std.specs.Prelude.{◌≡◌, ◌≤◌, ℕ, Bool, List, length, drop, Option, Some, None, option_map}
use Rattle.pv_token.specs.declared.token_table.Token.{Token}
use Rattle.pv_token.specs.declared.token_table.TokenKind.{TokenKind}
use Rattle.pv_token.specs.declared.token_table.TokenKind.TheVariants as kind
use Rattle.pv_token.specs.declared.words.Word.TheVariants as word
use Rattle.pv_token.specs.declared.marks.Mark.TheVariants as mark
use Rattle.pv_tree.specs.declared.nodes.NodeId.{NodeId}
use Rattle.pv_tree.specs.Syntax.{Block, SwitchBlock, For, ForDeclaration, Tree, OfStatement, Trees, NoTrees, OptionalTree}
use Rattle.pv_tree.specs.Spells.{Names}
use Rattle.pv_tree.specs.Tables.{Forest, Tables, as_statement, declaration_at, optional_at, is_expression, is_declaration, Has, HasOptional}
use Rattle.pv_expr_forms.specs.Reader.{is_open, is_close, is_colon}
use Rattle.pv_decl_forms.specs.Pieces.{Piece, is_semicolon, is_open_brace, is_close_brace, row}
use Rattle.pv_stmt_forms.specs.declared.forms.Sign.{Sign}
use Rattle.pv_stmt_forms.specs.declared.forms.Sign.TheVariants as sign
use Rattle.pv_stmt_forms.specs.declared.forms.StatementForm.{StatementForm}
use Rattle.pv_stmt_forms.specs.declared.forms.StatementForm.TheVariants as form
use Rattle.pv_stmt_forms.specs.declared.forms.LabelWord.{LabelWord}
use Rattle.pv_stmt_forms.specs.declared.forms.LabelWord.TheVariants as label_word
use Rattle.pv_stmt_forms.specs.declared.forms.Within.{Within}
use Rattle.pv_stmt_forms.specs.declared.forms.Within.TheVariants as within
use Rattle.pv_stmt_forms.specs.declared.forms.First.{First}
use Rattle.pv_stmt_forms.specs.declared.forms.First.TheVariants as first
use Rattle.pv_stmt_forms.specs.declared.forms.ForHead.{ForHead}
use Rattle.pv_stmt_forms.specs.Statements.{is_else, is_while, for_rest, for_parts, for_loop, item, block_end, label_of, labels_and_statement, Statements, readers}

-- ---- tokens

-- a token that a form ends with or goes on with
abbrev pub test_of : Sign → TokenKind → Bool
test_of sign.OpenParen k = is_open k
test_of sign.CloseParen k = is_close k
test_of sign.OpenBrace k = is_open_brace k
test_of sign.CloseBrace k = is_close_brace k
test_of sign.Semicolon k = is_semicolon k
test_of sign.Colon k = is_colon k
test_of sign.Else k = is_else k
test_of sign.While k = is_while k

-- the form of the statement that a token begins (6.8p1)
abbrev pub form_of : TokenKind → StatementForm
form_of (kind.Mark mark.OpenBrace) = form.Braces
form_of (kind.Word word.If) = form.If
form_of (kind.Word word.While) = form.While
form_of (kind.Word word.Do) = form.Do
form_of (kind.Word word.For) = form.For
form_of (kind.Word word.Switch) = form.Switch
form_of (kind.Word word.Break) = form.Break
form_of (kind.Word word.Continue) = form.Continue
form_of (kind.Word word.Return) = form.Return
form_of _ = form.Plain

-- the keyword of a label (6.8.1p1)
abbrev pub label_word_of : TokenKind → Option LabelWord
label_word_of (kind.Word word.Case) = Some label_word.Case
label_word_of (kind.Word word.Default) = Some label_word.Default
label_word_of _ = None

-- ---- what braces enclose (6.8.1p2, 6.8.2, 6.8.4.2)

-- what braces make of the items: a block, or that of a `switch` (6.8.2p1, 6.8.4.2)
abbrev pub block_tree : Within → (line : ℕ) → Trees → Tree
block_tree within.Block line items = OfStatement (Block line items)
block_tree within.Switch line items = OfStatement (SwitchBlock line items)

-- a statement among the items (6.8.2p1)
abbrev pub statement_in : Within → Names → (depth : ℕ) → List Token → Piece
statement_in within.Block names depth = readers names depth Statements
statement_in within.Switch names depth = labels_and_statement names depth (readers names depth Statements)

-- an item: a declaration or a statement (6.8.2p1)
abbrev pub item_in : Within → Names → (depth : ℕ) → List Token → Piece
item_in w names depth = item names depth (statement_in w names depth)

-- behind `{` (6.8.2p1)
abbrev pub block_behind : Within → Names → (below line : ℕ) → List Token → Piece
block_behind w names below line ts = block_end (block_tree w line) (row (item_in w names below) NoTrees ts)

-- ---- labels (6.8.1)

-- behind `case` (6.8.1p1)
abbrev pub case_label : Names → (depth line : ℕ) → List Token → Piece
case_label names depth line ts = label_of names depth line (kind.Word word.Case) ts

-- ---- a part that may be left out, before a token: what a function that reads both answers

-- a part that may be left out, before a token, as a tree and the tokens behind
abbrev pub part_seen : Forest → List Token → Option (Option NodeId × ℕ) → Option (OptionalTree × List Token)
part_seen f tokens None = None
part_seen f tokens (Some x) = Some (optional_at f x.0, drop x.1 tokens)

-- what is answered is an expression's node, and a place among the tokens
abbrev pub IsPartThere : Tables → List Token → Option (Option NodeId × ℕ) → Type 0
IsPartThere u tokens None = Unit {0}
IsPartThere u tokens (Some x) = HasOptional u.forest (length u.forest.trees) is_expression x.0 × (x.1 ≤ length tokens)

-- what the code answers is what reading on lists gives
pub record PartAnswers (u : Tables) (tokens : List Token) (answer : Option (Option NodeId × ℕ)) (reading : Option (OptionalTree × List Token)) : Type 0 where
  pub is : part_seen u.forest tokens answer ≡ reading
  pub there : IsPartThere u tokens answer

-- ---- the head of a `for` (6.8.5p1)

-- the first part of a `for` (6.8.5p1) is a node of its kind
abbrev pub HasFirst : Forest → (count : ℕ) → First → Type 0
HasFirst f count (first.Declaration d) = Has f count is_declaration d
HasFirst f count (first.Expression a) = HasOptional f count is_expression a

-- the parts of the head of a `for` (6.8.5p1) are there
pub record HasHead (f : Forest) (count : ℕ) (h : ForHead) : Type 0 where
  pub begins : HasFirst f count h.first
  pub tests : HasOptional f count is_expression h.condition
  pub steps : HasOptional f count is_expression h.step

-- what a first part makes with the others (6.8.5p1)
abbrev pub for_with : Forest → (line : ℕ) → First → OptionalTree → OptionalTree → Tree → Tree
for_with f line (first.Declaration d) c s x = OfStatement (ForDeclaration line (declaration_at f d) c s (as_statement x))
for_with f line (first.Expression a) c s x = OfStatement (For line (optional_at f a) c s (as_statement x))

-- what a head makes with a body (6.8.5p1)
abbrev pub for_by : Forest → (line : ℕ) → ForHead → Tree → Tree
for_by f line h x = for_with f line h.first (optional_at f h.condition) (optional_at f h.step) x

-- how a `for` goes on from its first part, where one is read (6.8.5p1)
abbrev pub after_first : Forest → Names → (below : ℕ) → (List Token → Piece) → (line : ℕ) → List Token → Option (First × ℕ) → Piece
after_first f names below read line tokens None = None
after_first f names below read line tokens (Some x) = for_rest names below read (for_with f line x.0) (drop x.1 tokens)

-- what is answered is a first part that is there
abbrev pub IsFirstThere : Tables → List Token → Option (First × ℕ) → Type 0
IsFirstThere u tokens None = Unit {0}
IsFirstThere u tokens (Some x) = HasFirst u.forest (length u.forest.trees) x.0 × (x.1 ≤ length tokens)

-- a first part that is read: whatever reads the body, the `for` goes on from it
pub record FirstAnswers (u : Tables) (names : Names) (below : ℕ) (tokens : List Token) (answer : Option (First × ℕ)) (ts : List Token) : Type 0 where
  pub is : (read : List Token → Piece) (line : ℕ) → after_first u.forest names below read line tokens answer ≡ for_parts names below read line ts
  pub there : IsFirstThere u tokens answer

-- how a `for` goes on from its head, where one is read (6.8.5p1)
abbrev pub after_head : Forest → (List Token → Piece) → (line : ℕ) → List Token → Option (ForHead × ℕ) → Piece
after_head f read line tokens None = None
after_head f read line tokens (Some x) = option_map (λ y. (for_by f line x.0 y.0, y.1)) (read (drop x.1 tokens))

-- what is answered is a head whose parts are there
abbrev pub IsHeadThere : Tables → List Token → Option (ForHead × ℕ) → Type 0
IsHeadThere u tokens None = Unit {0}
IsHeadThere u tokens (Some x) = HasHead u.forest (length u.forest.trees) x.0 × (x.1 ≤ length tokens)

-- a head that is read: whatever reads the body, the `for` goes on from it
pub record HeadAnswers (u : Tables) (names : Names) (below : ℕ) (tokens : List Token) (answer : Option (ForHead × ℕ)) (ts : List Token) : Type 0 where
  pub is : (read : List Token → Piece) (line : ℕ) → after_head u.forest read line tokens answer ≡ for_loop names below read line ts
  pub there : IsHeadThere u tokens answer
