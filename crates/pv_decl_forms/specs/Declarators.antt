-- A bridge: reading a declarator, a name's or an abstract one, from the left, on lists (6.7.6, 6.7.7).
use Rattle.std.specs.Prelude.{ℕ, zero, suc, Bool, true, false, ◌&&◌, ◌||◌, nat_le, List, [], ◌∷◌, drop, Some, None, option_map, option_and_then, if◌then◌else◌}
use Rattle.pv_token.specs.declared.token_table.Token.{Token}
use Rattle.pv_token.specs.declared.token_table.TokenKind.{TokenKind}
use Rattle.pv_token.specs.declared.token_table.TokenKind.TheVariants as kind
use Rattle.pv_token.specs.declared.marks.Mark.TheVariants as mark
use Rattle.pv_tree.specs.Syntax.{DeclaredName, ParenDeclarator, Pointer, Array, FunctionDeclarator, AbstractParen, AbstractPointer, AbstractArray, AbstractFunction, Tree, OfDeclarator, Trees, OptionalTree, Absent, Present}
use Rattle.pv_tree.specs.Depths.{declarator_depth}
use Rattle.pv_tree.specs.Grammar.{line_here}
use Rattle.pv_tree.specs.Spells.{Names, kind_begins_type}
use Rattle.pv_tree.specs.Tables.{as_declarator}
use Rattle.pv_tree.specs.Places.{Place, MemberDeclarators, AbstractDeclarators, ParameterDeclarators, Parameters, Constants, is_named, is_direct, some}
use Rattle.pv_expr_forms.specs.Reader.{is_close, is_bracket, is_comma, after}
use Rattle.pv_decl_forms.specs.declared.forms.Form.{Form}
use Rattle.pv_decl_forms.specs.declared.forms.Form.TheVariants as form
use Rattle.pv_decl_forms.specs.Pieces.{Piece, Reads, is_const, is_ellipsis, found_in, part_if_any, comma_list}

-- the place of the grammar at which a declarator stands (6.7.6p1, 6.7.7p1)
abbrev pub place_of : Form → Place
place_of form.Named = MemberDeclarators
place_of form.Abstract = AbstractDeclarators
place_of form.Either = ParameterDeclarators

-- it may declare a name (6.7.6p1)
abbrev pub allows_name : Form → Bool
allows_name form.Abstract = false
allows_name _ = true

-- it may be abstract (6.7.7p1)
abbrev pub allows_abstract : Form → Bool
allows_abstract form.Named = false
allows_abstract _ = true

-- ---- what a declarator makes of one within: a declarator of a declarator, an abstract one of an abstract one

-- 6.7.6p1, 6.7.7p1: a declarator in parentheses
abbrev pub paren_tree : (line : ℕ) → Tree → Tree
paren_tree line t = if is_named (as_declarator t) then OfDeclarator (ParenDeclarator line (as_declarator t)) else OfDeclarator (AbstractParen line (as_declarator t))

-- 6.7.6p1, 6.7.7p1: a declarator behind a `*` and words `const`
abbrev pub pointing : (line consts : ℕ) → Tree → Tree
pointing line consts t = if is_named (as_declarator t) then OfDeclarator (Pointer line consts (as_declarator t)) else OfDeclarator (AbstractPointer line consts (Present t))

-- 6.7.6p1, 6.7.7p1: a declarator and brackets behind it
abbrev pub array_tree : (line : ℕ) → Tree → OptionalTree → Tree
array_tree line t size = if is_named (as_declarator t) then OfDeclarator (Array line (as_declarator t) size) else OfDeclarator (AbstractArray line (Present t) size)

-- 6.7.6p1, 6.7.7p1: a declarator and parameters behind it
abbrev pub function_tree : (line : ℕ) → Tree → Trees → Bool → Tree
function_tree line t parameters variadic = if is_named (as_declarator t) then OfDeclarator (FunctionDeclarator line (as_declarator t) parameters variadic) else OfDeclarator (AbstractFunction line (Present t) parameters variadic)

-- ---- what stands in brackets and in parentheses

-- once the size is read, if there is one (6.7.6p1)
unfoldable pub behind_size : (OptionalTree → Tree) → OptionalTree × List Token → Piece
behind_size make x = option_map (λ rest. (make x.0, rest)) (after is_bracket x.1)

-- behind `[` (6.7.6.2)
unfoldable pub size_behind : (OptionalTree → Tree) → Reads → List Token → Piece
size_behind make below ts = behind_size make (part_if_any ts (below Constants ts))

-- `, ...` behind parameters, if there are any (6.7.6p1)
unfoldable pub variadic_at : Trees → List Token → Bool × List Token
variadic_at parameters ts = if some parameters then found_in (option_and_then (after is_ellipsis) (after is_comma ts)) ts else (false, ts)

-- the parenthesis that closes parameters (6.7.6p1)
unfoldable pub behind_parameters : (Bool → Tree) → Bool × List Token → Piece
behind_parameters make x = option_map (λ rest. (make x.0, rest)) (after is_close x.1)

-- once the parameters are read (6.7.6p1)
unfoldable pub with_parameters : (Trees → Bool → Tree) → Trees × List Token → Piece
with_parameters make x = behind_parameters (make x.0) (variadic_at x.0 x.1)

-- behind the `(` of parameters (6.7.6.3)
unfoldable pub parameters_behind : (Trees → Bool → Tree) → Reads → List Token → Piece
parameters_behind make below ts = with_parameters make (comma_list (below Parameters) ts)

-- ---- how a declarator begins

-- how many words `const` stand in a row (6.7.6.1p1)
abbrev pub consts_in_row : List Token → ℕ
consts_in_row [] = 0
consts_in_row (t ∷ ts) = if is_const t.kind then suc (consts_in_row ts) else 0

-- once it is read what is pointed from, if anything is (6.7.7p1)
unfoldable pub pointer_tree : Form → (line consts : ℕ) → List Token → Piece → Piece
pointer_tree f line consts ts None = if allows_abstract f then Some (OfDeclarator (AbstractPointer line consts Absent), ts) else None
pointer_tree f line consts ts (Some x) = Some (pointing line consts x.0, x.1)

-- behind `*` and words `const` (6.7.6p1)
unfoldable pub pointer : Reads → Form → (line consts : ℕ) → List Token → Piece
pointer below f line consts ts = pointer_tree f line consts ts (below (place_of f) ts)

-- 6.7.6.3p11: parameters stand behind `(`, and no declarator: behind a declarator's `(` stands no token that closes or begins specifiers
abbrev pub opens_parameters : Names → List Token → Bool
opens_parameters names [] = false
opens_parameters names (t ∷ ts) = is_close t.kind || kind_begins_type names t.kind

-- once a declarator in parentheses is read (6.7.6p1, 6.7.7p1)
unfoldable pub in_parentheses : (line : ℕ) → Tree → List Token → Piece
in_parentheses line t ts = option_map (λ rest. (paren_tree line t, rest)) (after is_close ts)

-- behind `(` (6.7.6p1, 6.7.7p1)
unfoldable pub behind_paren : Names → Reads → Form → (line : ℕ) → List Token → Piece
behind_paren names below f line ts =
    if opens_parameters names ts
    then (if allows_abstract f then parameters_behind (λ parameters variadic. OfDeclarator (AbstractFunction line Absent parameters variadic)) below ts else None)
    else option_and_then (λ x. in_parentheses line x.0 x.1) (below (place_of f) ts)

-- what a token begins (6.7.6p1, 6.7.7p1)
unfoldable pub head_of : Names → Reads → Form → (line : ℕ) → TokenKind → List Token → Piece
head_of names below f line (kind.Name n) ts = if names.is_type n then None else if allows_name f then Some (OfDeclarator (DeclaredName line n), ts) else None
head_of names below f line (kind.Mark mark.Star) ts = pointer below f line (consts_in_row ts) (drop (consts_in_row ts) ts)
head_of names below f line (kind.Mark mark.OpenParen) ts = behind_paren names below f line ts
head_of names below f line (kind.Mark mark.OpenBracket) ts = if allows_abstract f then size_behind (λ size. OfDeclarator (AbstractArray line Absent size)) below ts else None
head_of names below f line _ ts = None

-- a declarator that nothing went on from yet (6.7.6p1, 6.7.7p1)
unfoldable pub head : Names → Reads → Form → List Token → Piece
head names below f [] = None
head names below f (t ∷ ts) = head_of names below f t.line t.kind ts

-- ---- how a declarator goes on: brackets and parameters behind a direct one

-- the declarator that goes on from left, where a token goes on from it (6.7.6p1, 6.7.7p1)
unfoldable pub declarator_on : Reads → (line : ℕ) → (left : Tree) → TokenKind → List Token → Piece
declarator_on below line left (kind.Mark mark.OpenBracket) ts = size_behind (array_tree line left) below ts
declarator_on below line left (kind.Mark mark.OpenParen) ts = parameters_behind (function_tree line left) below ts
declarator_on below line left _ ts = None

-- the next longer declarator that begins with left (6.7.6p1, 6.7.7p1), where one node more is not too deep
unfoldable pub longer_declarator : Reads → (depth line : ℕ) → (left : Tree) → List Token → Piece
longer_declarator below depth line left [] = None
longer_declarator below depth line left (t ∷ ts) =
    if is_direct (as_declarator left) && nat_le (declarator_depth (as_declarator left)) depth then declarator_on below line left t.kind ts else None

-- goes on with what was read, if anything was
abbrev pub on_with : (Tree → List Token → Tree × List Token) → Tree → List Token → Piece → Tree × List Token
on_with go left ts None = (left, ts)
on_with go left ts (Some x) = go x.0 x.1

-- the longest declarator that begins with left, in so many steps at most
unfoldable pub grown_for : (steps : ℕ) → Reads → (depth line : ℕ) → (left : Tree) → List Token → Tree × List Token
grown_for zero below depth line left ts = (left, ts)
grown_for (suc steps) below depth line left ts = on_with (grown_for steps below depth line) left ts (longer_declarator below depth line left ts)

-- the longest declarator that begins with left (6.7.6p1)
unfoldable pub longest_declarator : Reads → (depth line : ℕ) → (left : Tree) → List Token → Tree × List Token
longest_declarator below depth line left ts = grown_for (suc depth) below depth line left ts

-- the longest declarator of a form (6.7.6, 6.7.7), of at most so much depth
unfoldable pub declarator : Names → Reads → (depth : ℕ) → Form → List Token → Piece
declarator names below depth f ts = option_map (λ x. longest_declarator below depth (line_here ts) x.0 x.1) (head names below f ts)
