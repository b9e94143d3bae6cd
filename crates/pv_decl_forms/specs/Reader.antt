-- A bridge: reading specifiers, declarations and type names from the left, on lists (6.7, 6.9.1): the longest of at most so much depth. A node takes its
-- parts from one level of depth less, what is no node takes them from its own.
use Rattle.std.specs.Prelude.{◌≡◌, ℕ, zero, suc, Bool, List, [], ◌∷◌, Option, Some, None, option_map, option_and_then, if◌then◌else◌}
use Rattle.pv_token.specs.declared.token_table.Token.{Token}
use Rattle.pv_token.specs.declared.token_table.TokenKind.{TokenKind}
use Rattle.pv_token.specs.declared.token_table.TokenKind.TheVariants as kind
use Rattle.pv_token.specs.declared.words.Word.{Word}
use Rattle.pv_token.specs.declared.words.Word.TheVariants as word
use Rattle.pv_token.specs.declared.marks.Mark.TheVariants as mark
use Rattle.pv_tree.specs.Syntax.{DeclarationTree, Declaration, InitDeclarator, MemberDeclaration, Enumerator, Parameter, TypeName, Keyword, Composite, Enumeration, Tag, TypedefName, Initial, Braces, Tree, OfExpression, OfDeclaration, OfSpecifier, OfInitializer, Trees, NoTrees, Then, OptionalTree, Present}
use Rattle.pv_tree.specs.Grammar.{line_here}
use Rattle.pv_tree.specs.Spells.{Names}
use Rattle.pv_tree.specs.Tables.{as_declarator, as_declaration}
use Rattle.pv_tree.specs.Places.{Specifiers, InitDeclarators, Members, MemberDeclarators, Enumerators, Parameters, Initializers, Constants, AbstractDeclarators, ParameterDeclarators, is_plain_word, is_tag_word, some}
use Rattle.pv_expr_forms.specs.Follows.{or_else}
use Rattle.pv_expr_forms.specs.Reader.{is_comma, after, read}
use Rattle.pv_decl_forms.specs.declared.forms.Form.TheVariants as form
use Rattle.pv_decl_forms.specs.Pieces.{Piece, Reads, is_semicolon, is_open_brace, is_close_brace, found_in, part_if_any, value, row, after_comma, comma_list}
use Rattle.pv_decl_forms.specs.Declarators.{declarator}
use Rattle.pv_decl_forms.specs.Grammar.{opens_block}

-- ---- lists in braces

-- the brace that closes a list (6.7.2.1p1, 6.7.2.2p1, 6.7.9p1)
unfoldable pub brace_closed : (Bool → Tree) → Bool × List Token → Piece
brace_closed make x = option_map (λ rest. (make x.0, rest)) (after is_close_brace x.1)

-- once some parts are read, a comma may follow (6.7.2.2p1, 6.7.9p1)
unfoldable pub listed_in_braces : (Trees → Bool → Tree) → Trees × List Token → Piece
listed_in_braces make x = if some x.0 then brace_closed (make x.0) (found_in (after is_comma x.1) x.1) else None

-- once parts in a row are read (6.7.2.1p1)
unfoldable pub row_in_braces : (Trees → Tree) → Trees × List Token → Piece
row_in_braces make x = if some x.0 then option_map (λ rest. (make x.0, rest)) (after is_close_brace x.1) else None

-- ---- specifiers (6.7.1 to 6.7.3, 6.7.8)

-- a name as a token (6.4.2.1)
abbrev pub name_of : TokenKind → Option ℕ
name_of (kind.Name n) = Some n
name_of _ = None

-- a tag, where the token is a name (6.7.2.3)
abbrev pub tag_in : Option ℕ → Token → List Token → Option ℕ × List Token
tag_in None t ts = (None, t ∷ ts)
tag_in (Some n) t ts = (Some n, ts)

-- a tag, if there is one (6.7.2.1p1, 6.7.2.2p1)
abbrev pub tag_at : List Token → Option ℕ × List Token
tag_at [] = (None, [])
tag_at (t ∷ ts) = tag_in (name_of t.kind) t ts

-- a word and a tag without braces (6.7.2.3)
abbrev pub tag_alone : (line : ℕ) → Word → Option ℕ → List Token → Piece
tag_alone line w None ts = None
tag_alone line w (Some n) ts = Some (OfSpecifier (Tag line w n), ts)

-- behind `{` (6.7.2.1p1, 6.7.2.2p1)
unfoldable pub behind_open_brace : Reads → (line : ℕ) → Word → Option ℕ → List Token → Piece
behind_open_brace below line word.Enum tag ts = listed_in_braces (λ enumerators comma. OfSpecifier (Enumeration line tag enumerators comma)) (comma_list (below Enumerators) ts)
behind_open_brace below line w tag ts = row_in_braces (λ members. OfSpecifier (Composite line w tag members)) (row (below Members) NoTrees ts)

-- with braces, if they can be read (6.7.2.1p1, 6.7.2.2p1)
unfoldable pub with_tag : Reads → (line : ℕ) → Word → Option ℕ × List Token → Piece
with_tag below line w x = or_else (option_and_then (behind_open_brace below line w x.0) (after is_open_brace x.1)) (tag_alone line w x.0 x.1)

-- the specifier that a token begins (6.7.1 to 6.7.3, 6.7.8)
unfoldable pub specifier_of : Names → Reads → (line : ℕ) → TokenKind → List Token → Piece
specifier_of names below line (kind.Name n) ts = if names.is_type n then Some (OfSpecifier (TypedefName line n), ts) else None
specifier_of names below line (kind.Word w) ts =
    if is_plain_word w then Some (OfSpecifier (Keyword line w), ts) else if is_tag_word w then with_tag below line w (tag_at ts) else None
specifier_of names below line _ ts = None

-- a specifier (6.7p1)
unfoldable pub specifier : Names → Reads → List Token → Piece
specifier names below [] = None
specifier names below (t ∷ ts) = specifier_of names below t.line t.kind ts

-- ---- specifiers, and what may follow

-- specifiers, and perhaps a declarator (6.7.6p1, 6.7.7p1)
abbrev pub made_of : (Trees → OptionalTree → DeclarationTree) → Trees → OptionalTree × List Token → Piece
made_of make specs o = Some (OfDeclaration (make specs o.0), o.1)

-- once specifiers are read, a declarator may follow (6.7.6.3, 6.7.7)
unfoldable pub behind_specifiers : (Trees → OptionalTree → DeclarationTree) → (List Token → Piece) → Trees × List Token → Piece
behind_specifiers make read x = if some x.0 then made_of make x.0 (part_if_any x.1 (read x.1)) else None

-- a parameter (6.7.6.3)
unfoldable pub parameter : Reads → List Token → Piece
parameter below ts = behind_specifiers (Parameter (line_here ts)) (below ParameterDeclarators) (row (below Specifiers) NoTrees ts)

-- a declaration's semicolon (6.7p1)
unfoldable pub semicolon_behind : DeclarationTree → List Token → Piece
semicolon_behind d ts = option_map (λ rest. (OfDeclaration d, rest)) (after is_semicolon ts)

-- once the declarators of members are read (6.7.2.1p1)
unfoldable pub with_members : (line : ℕ) → (specs : Trees) → Trees × List Token → Piece
with_members line specs x = if some x.0 then semicolon_behind (MemberDeclaration line specs x.0) x.1 else None

-- once the specifiers of members are read (6.7.2.1p1)
unfoldable pub member_with : Reads → (line : ℕ) → Trees × List Token → Piece
member_with reads line x = if some x.0 then with_members line x.0 (comma_list (reads MemberDeclarators) x.1) else None

-- a declaration of members (6.7.2.1)
unfoldable pub member : Reads → List Token → Piece
member reads ts = member_with reads (line_here ts) (row (reads Specifiers) NoTrees ts)

-- once its name is read (6.7.2.2p1)
unfoldable pub enumerator_of : Names → Reads → (line : ℕ) → Option ℕ → List Token → Piece
enumerator_of names reads line None ts = None
enumerator_of names reads line (Some n) ts =
    if names.is_type n then None else Some (OfDeclaration (Enumerator line n (value (reads Constants) ts).0), (value (reads Constants) ts).1)

-- an enumerator (6.7.2.2)
unfoldable pub enumerator : Names → Reads → List Token → Piece
enumerator names reads [] = None
enumerator names reads (t ∷ ts) = enumerator_of names reads t.line (name_of t.kind) ts

-- ---- initializers (6.7.9)

-- an initializer (6.7.9p1)
unfoldable pub initializer : Names → Reads → (depth : ℕ) → List Token → Piece
initializer names below depth [] = None
initializer names below depth (t ∷ ts) =
    if is_open_brace t.kind
    then listed_in_braces (λ inits comma. OfInitializer (Braces t.line inits comma)) (comma_list (below Initializers) ts)
    else option_map (λ x. (OfInitializer (Initial t.line x.0), x.1)) (read names depth 2 (t ∷ ts))

-- once its declarator is read, a value may follow (6.7p1)
unfoldable pub declarator_and_value : Reads → (line : ℕ) → Tree → List Token → Tree × List Token
declarator_and_value reads line t ts = (OfDeclaration (InitDeclarator line (as_declarator t) (value (reads Initializers) ts).0), (value (reads Initializers) ts).1)

-- an init-declarator (6.7p1)
unfoldable pub init_declarator : Reads → List Token → Piece
init_declarator reads ts = option_map (λ x. declarator_and_value reads (line_here ts) x.0 x.1) (reads MemberDeclarators ts)

-- ---- all of it, by the place

-- the trees that are nodes, by their place
unfoldable pub node_readers : Names → Reads → (depth : ℕ) → Reads
node_readers names below depth Specifiers ts = specifier names below ts
node_readers names below depth MemberDeclarators ts = declarator names below depth form.Named ts
node_readers names below depth AbstractDeclarators ts = declarator names below depth form.Abstract ts
node_readers names below depth ParameterDeclarators ts = declarator names below depth form.Either ts
node_readers names below depth Parameters ts = parameter below ts
node_readers names below depth Initializers ts = initializer names below depth ts
node_readers names below depth Constants ts = option_map (λ x. (OfExpression x.0, x.1)) (read names (suc depth) 3 ts)
node_readers names below depth _ ts = None

-- where no depth is left: nothing
abbrev pub nothing : Reads
nothing place ts = None

-- where no depth is left: specifiers without braces alone
unfoldable pub leaves : Names → Reads
leaves names Specifiers ts = specifier names nothing ts
leaves names _ ts = None

-- what is no node of its own
unfoldable pub with_parts : Names → Reads → Reads
with_parts names reads InitDeclarators ts = init_declarator reads ts
with_parts names reads Members ts = member reads ts
with_parts names reads Enumerators ts = enumerator names reads ts
with_parts names reads place ts = reads place ts

-- a tree that stands at a place, of at most so much depth
unfoldable pub readers : Names → (depth : ℕ) → Reads
readers names zero place ts = with_parts names (leaves names) place ts
readers names (suc depth) place ts = with_parts names (node_readers names (readers names depth) depth) place ts

-- ---- type names and declarations

-- the longest type name (6.7.7)
unfoldable pub type_name : Names → (depth : ℕ) → List Token → Piece
type_name names depth ts = behind_specifiers (TypeName (line_here ts)) (readers names depth AbstractDeclarators) (row (readers names depth Specifiers) NoTrees ts)

-- once all init-declarators are read (6.7p1)
unfoldable pub behind_declarators : (line : ℕ) → (specs : Trees) → Trees × List Token → Piece
behind_declarators line specs x = semicolon_behind (Declaration line specs x.0) x.1

-- once the first declarator is read: a function's (6.9.1p1), or a declaration's with others (6.7p1)
unfoldable pub after_declarator : Reads → (line here : ℕ) → (specs : Trees) → Tree → List Token → Piece
after_declarator below line here specs t ts =
    if opens_block ts
    then Some (OfDeclaration (Parameter line specs (Present t)), ts)
    else behind_declarators line specs (row (after_comma (below InitDeclarators)) (Then NoTrees (declarator_and_value below here t ts).0) (declarator_and_value below here t ts).1)

-- the init-declarators from a first one on (6.7p1)
abbrev pub declared_from : Reads → Tree → List Token → Trees × List Token
declared_from reads first ts = row (after_comma (reads InitDeclarators)) (Then NoTrees first) ts

-- once specifiers are read (6.7p1)
unfoldable pub after_specifiers : Reads → (line : ℕ) → (specs : Trees) → List Token → Piece
after_specifiers below line specs ts =
    or_else (semicolon_behind (Declaration line specs NoTrees) ts) (option_and_then (λ x. after_declarator below line (line_here ts) specs x.0 x.1) (below MemberDeclarators ts))

-- the same of specifiers that there are (6.7p1)
unfoldable pub declaration_with : Reads → (line : ℕ) → Trees × List Token → Piece
declaration_with below line x = if some x.0 then after_specifiers below line x.0 x.1 else None

-- a declaration to its `;` (6.7), or the head of a function to before its block (6.9.1): the specifiers and the declarator, as a parameter's
-- (worked by hand in proofs/Worked: `initializes`, `heads` and where it is `too_deep`, `composes`, `declares` and `declares_none`)
unfoldable pub declaration : Names → (depth : ℕ) → List Token → Piece
declaration names zero ts = None
declaration names (suc depth) ts = declaration_with (readers names depth) (line_here ts) (row (readers names depth Specifiers) NoTrees ts)

-- a tree that is read, as a declaration
abbrev pub as_type_name : Piece → Option (DeclarationTree × List Token)
as_type_name None = None
as_type_name (Some x) = Some (as_declaration x.0, x.1)

-- 6.7.7: behind each `(`, where K holds of the tokens from it on, the type name is the longest of at most so much depth
abbrev pub HasTypeNames : Names → (K : List Token → Type 0) → (deep : ℕ) → Type 0
HasTypeNames names K deep = (o : Token) (ts : List Token) → K (o ∷ ts) → o.kind ≡ kind.Mark mark.OpenParen → names.type_at ts ≡ as_type_name (type_name names deep ts)
