-- A bridge: parts read one after another, on lists: rows, lists with commas, parts that may be left out.
use Rattle.std.specs.Prelude.{ℕ, zero, suc, Bool, true, false, List, length, Option, Some, None, option_and_then}
use Rattle.pv_token.specs.declared.token_table.Token.{Token}
use Rattle.pv_token.specs.declared.token_table.TokenKind.{TokenKind}
use Rattle.pv_token.specs.declared.token_table.TokenKind.TheVariants as kind
use Rattle.pv_token.specs.declared.words.Word.TheVariants as word
use Rattle.pv_token.specs.declared.marks.Mark.TheVariants as mark
use Rattle.pv_tree.specs.Syntax.{Tree, Trees, NoTrees, Then, OptionalTree, Absent, Present}
use Rattle.pv_tree.specs.Places.{Place}
use Rattle.pv_expr_forms.specs.Reader.{is_comma, after}

-- what reading gives: a tree (6.7), and the tokens behind it
abbrev pub Piece : Type 0
Piece = Option (Tree × List Token)

-- reads a tree that stands at a place
abbrev pub Reads : Type 0
Reads = Place → List Token → Piece

-- ---- tokens that a form ends with or goes on with

-- `;` (6.4.6)
abbrev pub is_semicolon : TokenKind → Bool
is_semicolon (kind.Mark mark.Semicolon) = true
is_semicolon _ = false

-- `=` (6.4.6)
abbrev pub is_equals : TokenKind → Bool
is_equals (kind.Mark mark.Assign) = true
is_equals _ = false

-- `...` (6.4.6)
abbrev pub is_ellipsis : TokenKind → Bool
is_ellipsis (kind.Mark mark.Ellipsis) = true
is_ellipsis _ = false

-- `{` (6.4.6)
abbrev pub is_open_brace : TokenKind → Bool
is_open_brace (kind.Mark mark.OpenBrace) = true
is_open_brace _ = false

-- `}` (6.4.6)
abbrev pub is_close_brace : TokenKind → Bool
is_close_brace (kind.Mark mark.CloseBrace) = true
is_close_brace _ = false

-- the word `const` (6.4.1p1)
abbrev pub is_const : TokenKind → Bool
is_const (kind.Word word.Const) = true
is_const _ = false

-- whether there are tokens behind one of a kind, and what is left
abbrev pub found_in : Option (List Token) → List Token → Bool × List Token
found_in None ts = (false, ts)
found_in (Some rest) ts = (true, rest)

-- ---- parts that may be left out: what can't be read is

-- a part that may be left out: what can't be read is
abbrev pub part_if_any : List Token → Piece → OptionalTree × List Token
part_if_any ts None = (Absent, ts)
part_if_any ts (Some x) = (Present x.0, x.1)

-- `=` and a part (6.7p1, 6.7.2.2p1)
unfoldable pub value : (List Token → Piece) → List Token → OptionalTree × List Token
value read ts = part_if_any ts (option_and_then read (after is_equals ts))

-- ---- parts in a row: it stops before what can't be read

-- goes on with what was read, if anything was
abbrev pub row_on : (Trees → List Token → Trees × List Token) → Trees → List Token → Piece → Trees × List Token
row_on go before ts None = (before, ts)
row_on go before ts (Some x) = go (Then before x.0) x.1

-- parts in a row, in so many steps at most
unfoldable pub row_for : (steps : ℕ) → (List Token → Piece) → Trees → List Token → Trees × List Token
row_for zero read before ts = (before, ts)
row_for (suc steps) read before ts = row_on (row_for steps read) before ts (read ts)

-- the parts from one on, behind those before it: it stops before what can't be read
unfoldable pub row : (List Token → Piece) → Trees → List Token → Trees × List Token
row read before ts = row_for (length ts) read before ts

-- a part behind a comma (6.7p1, 6.7.6p1)
unfoldable pub after_comma : (List Token → Piece) → List Token → Piece
after_comma read ts = option_and_then read (after is_comma ts)

-- parts with commas between (6.7p1, 6.7.2.1p1, 6.7.2.2p1, 6.7.6p1, 6.7.9p1)
unfoldable pub comma_list : (List Token → Piece) → List Token → Trees × List Token
comma_list read ts = row_on (row (after_comma read)) NoTrees ts (read ts)
