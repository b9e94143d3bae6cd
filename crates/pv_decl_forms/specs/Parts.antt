-- A bridge: what the code asks for by names of its own, in the words of the reader.
use Rattle.std.specs.Prelude.{ℕ, zero, suc, Bool, false, List, [], ◌∷◌, Option, Some, None, option_map, if◌then◌else◌}
use Rattle.pv_token.specs.declared.token_table.Token.{Token}
use Rattle.pv_token.specs.declared.token_table.TokenKind.{TokenKind}
use Rattle.pv_token.specs.declared.token_table.TokenKind.TheVariants as kind
use Rattle.pv_token.specs.declared.words.Word.{Word}
use Rattle.pv_token.specs.declared.words.Word.TheVariants as word
use Rattle.pv_token.specs.declared.marks.Mark.TheVariants as mark
use Rattle.pv_tree.specs.declared.nodes.Spec.{Spec}
use Rattle.pv_tree.specs.declared.nodes.Spec.TheVariants as spec
use Rattle.pv_tree.specs.Syntax.{DeclaredName, AbstractArray, AbstractFunction, Keyword, TypedefName, Tree, OfExpression, OfDeclarator, OfSpecifier, Trees, OptionalTree, Absent, Present}
use Rattle.pv_tree.specs.Tables.{is_declaration, is_declarator, is_specifier}
use Rattle.pv_tree.specs.Places.{Place, Specifiers, Members, Enumerators, Parameters, is_plain_word}
use Rattle.pv_tree.specs.Spells.{Names}
use Rattle.pv_expr_forms.specs.Reader.{is_close, is_bracket, is_comma, read}
use Rattle.pv_decl_forms.specs.declared.forms.Form.{Form}
use Rattle.pv_decl_forms.specs.declared.forms.Opening.{Opening}
use Rattle.pv_decl_forms.specs.declared.forms.Opening.TheVariants as opening
use Rattle.pv_decl_forms.specs.declared.forms.Part.{Part}
use Rattle.pv_decl_forms.specs.declared.forms.Part.TheVariants as part
use Rattle.pv_decl_forms.specs.declared.forms.CompositeWord.{CompositeWord}
use Rattle.pv_decl_forms.specs.declared.forms.CompositeWord.TheVariants as composite
use Rattle.pv_decl_forms.specs.declared.forms.TagWord.{TagWord}
use Rattle.pv_decl_forms.specs.declared.forms.TagWord.TheVariants as tag_word
use Rattle.pv_decl_forms.specs.declared.forms.Sign.{Sign}
use Rattle.pv_decl_forms.specs.declared.forms.Sign.TheVariants as sign
use Rattle.pv_decl_forms.specs.Pieces.{Piece, Reads, is_const, is_semicolon, is_equals, is_ellipsis, is_open_brace, is_close_brace}
use Rattle.pv_decl_forms.specs.Declarators.{place_of, allows_name, array_tree, function_tree}
use Rattle.pv_decl_forms.specs.Reader.{readers}

-- a mark that a part ends with or goes on with
abbrev pub test_of : Sign → TokenKind → Bool
test_of sign.CloseParen k = is_close k
test_of sign.CloseBracket k = is_bracket k
test_of sign.Comma k = is_comma k
test_of sign.Semicolon k = is_semicolon k
test_of sign.Equals k = is_equals k
test_of sign.Ellipsis k = is_ellipsis k
test_of sign.OpenBrace k = is_open_brace k
test_of sign.CloseBrace k = is_close_brace k

-- the word `const` is the next token (6.7.6.1p1)
abbrev pub is_const_next : List Token → Bool
is_const_next [] = false
is_const_next (t ∷ ts) = is_const t.kind

-- ---- parts

-- the place of the grammar at which a part stands
abbrev pub place_of_part : Part → Place
place_of_part part.Specifier = Specifiers
place_of_part part.Member = Members
place_of_part part.Enumerator = Enumerators
place_of_part part.Parameter = Parameters
place_of_part (part.Declarator f) = place_of f

-- the kind of tree that a part is
abbrev pub kind_of_part : Part → Tree → Bool
kind_of_part part.Specifier t = is_specifier t
kind_of_part part.Member t = is_declaration t
kind_of_part part.Enumerator t = is_declaration t
kind_of_part part.Parameter t = is_declaration t
kind_of_part (part.Declarator f) t = is_declarator t

-- ---- specifiers

-- `struct` or `union` (6.7.2.1p1)
abbrev pub word_of_composite : CompositeWord → Word
word_of_composite composite.Struct = word.Struct
word_of_composite composite.Union = word.Union

-- `struct`, `union` or `enum` (6.7.2.3)
abbrev pub word_of_tag : TagWord → Word
word_of_tag (tag_word.Composite c) = word_of_composite c
word_of_tag tag_word.Enum = word.Enum

-- a keyword before a tag (6.7.2.3)
abbrev pub tag_word_of : TokenKind → Option TagWord
tag_word_of (kind.Word word.Struct) = Some (tag_word.Composite composite.Struct)
tag_word_of (kind.Word word.Union) = Some (tag_word.Composite composite.Union)
tag_word_of (kind.Word word.Enum) = Some tag_word.Enum
tag_word_of _ = None

-- the specifier that a keyword is by itself (6.7.1 to 6.7.3)
abbrev pub keyword_of : Word → Option Spec
keyword_of word.Typedef = Some spec.Typedef
keyword_of word.Extern = Some spec.Extern
keyword_of word.Static = Some spec.Static
keyword_of word.Const = Some spec.Const
keyword_of word.Void = Some spec.Void
keyword_of word.Char = Some spec.Char
keyword_of word.Short = Some spec.Short
keyword_of word.Int = Some spec.Int
keyword_of word.Long = Some spec.Long
keyword_of word.Signed = Some spec.Signed
keyword_of word.Unsigned = Some spec.Unsigned
keyword_of word.Bool = Some spec.Bool
keyword_of _ = None

-- what a declarator begins or goes on with (6.7.6p1)
abbrev pub opening_of : TokenKind → Option Opening
opening_of (kind.Name n) = Some (opening.Name n)
opening_of (kind.Mark mark.Star) = Some opening.Star
opening_of (kind.Mark mark.OpenParen) = Some opening.Paren
opening_of (kind.Mark mark.OpenBracket) = Some opening.Bracket
opening_of _ = None

-- a keyword that stands alone, or a typedef name (6.7.1 to 6.7.3, 6.7.8)
unfoldable pub plain_of : (ℕ → Bool) → (line : ℕ) → TokenKind → List Token → Piece
plain_of is_type line (kind.Name n) ts = if is_type n then Some (OfSpecifier (TypedefName line n), ts) else None
plain_of is_type line (kind.Word w) ts = if is_plain_word w then Some (OfSpecifier (Keyword line w), ts) else None
plain_of is_type line _ ts = None

-- ---- declarators

-- a name, as a declarator (6.7.6p1)
unfoldable pub named_of : (ℕ → Bool) → Form → (line n : ℕ) → List Token → Piece
named_of is_type f line n ts = if is_type n then None else if allows_name f then Some (OfDeclarator (DeclaredName line n), ts) else None

-- what reads the parts of a node of at most so much depth
unfoldable pub within : Names → (depth : ℕ) → Reads
within names zero place ts = None
within names (suc depth) place ts = readers names depth place ts

-- ---- brackets and parameters behind a declarator that may be left out (6.7.6.2, 6.7.6.3)

-- 6.7.6p1, 6.7.7p1: brackets behind a declarator
abbrev pub array_of : (line : ℕ) → OptionalTree → OptionalTree → Tree
array_of line Absent size = OfDeclarator (AbstractArray line Absent size)
array_of line (Present t) size = array_tree line t size

-- 6.7.6p1, 6.7.7p1: parameters behind a declarator
abbrev pub function_of : (line : ℕ) → OptionalTree → Trees → Bool → Tree
function_of line Absent parameters variadic = OfDeclarator (AbstractFunction line Absent parameters variadic)
function_of line (Present t) parameters variadic = function_tree line t parameters variadic

-- ---- initializers

-- an assignment expression (6.7.9p1)
unfoldable pub assignment_expression : Names → (depth : ℕ) → List Token → Piece
assignment_expression names depth ts = option_map (λ x. (OfExpression x.0, x.1)) (read names depth 2 ts)
