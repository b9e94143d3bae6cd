-- A bridge: reading external declarations from the left, on lists (6.9).
use Rattle.std.specs.Prelude.{ℕ, zero, suc, Bool, List, [], ◌∷◌, length, Option, Some, None, option_map, option_and_then}
use Rattle.pv_token.specs.declared.token_table.Token.{Token}
use Rattle.pv_tree.specs.Syntax.{DeclarationTree, Function, Declaration, Parameter, Tree, OfDeclaration, OfDeclarator, Present}
use Rattle.pv_tree.specs.Spells.{Names}
use Rattle.pv_tree.specs.Tables.{as_statement}
use Rattle.pv_tree.specs.Units.{depth_limit, with_types}
use Rattle.pv_decl_forms.specs.Pieces.{Piece}
use Rattle.pv_decl_forms.specs.Reader.{declaration, type_name, as_type_name}
use Rattle.pv_stmt_forms.specs.Statements.{statement}

-- once a declaration is read, or the head of a function, whose block follows (6.9.1)
unfoldable pub with_block : Names → (below : ℕ) → Tree → List Token → Piece
with_block names below (OfDeclaration (Declaration line specs declared)) ts = Some (OfDeclaration (Declaration line specs declared), ts)
with_block names below (OfDeclaration (Parameter line specs (Present (OfDeclarator d)))) ts =
    option_map (λ x. (OfDeclaration (Function line specs d (as_statement x.0)), x.1)) (statement names below ts)
with_block names below _ ts = None

-- a declaration or a function definition (6.9p1), of at most so much depth
unfoldable pub external : Names → (depth : ℕ) → List Token → Piece
external names zero ts = None
external names (suc below) ts = option_and_then (λ x. with_block names below x.0 x.1) (declaration names (suc below) ts)

-- ---- under a set of typedef names alone

-- 6.7.7: the longest type name that begins where some tokens are left, by those that begin later; for at most so many tokens
unfoldable pub type_names_for : (is_type : ℕ → Bool) → (count : ℕ) → List Token → Option (DeclarationTree × List Token)
type_names_for is_type zero ts = None
type_names_for is_type (suc count) ts = as_type_name (type_name (record { is_type = is_type; type_at = type_names_for is_type count }) depth_limit ts)

-- 6.7.8p3: the names, where a type name is the longest of at most the limit's depth
unfoldable pub names_by : (is_type : ℕ → Bool) → Names
names_by is_type = record { is_type = is_type; type_at = λ ts. type_names_for is_type (length ts) ts }

-- the external declaration (6.9p1) that some tokens begin with, under a set of typedef names
abbrev pub external_at : (is_type : ℕ → Bool) → List Token → Option (DeclarationTree × List Token)
external_at is_type ts = as_type_name (external (names_by is_type) depth_limit ts)

-- ---- external declarations in a row, each of which may add typedef names for those behind it

-- one external declaration, and those behind it
abbrev pub units_on : ((ℕ → Bool) → List Token → List DeclarationTree × List Token) → (types : ℕ → Bool) → List Token → Option (DeclarationTree × List Token) → List DeclarationTree × List Token
units_on go types ts None = ([], ts)
units_on go types ts (Some x) = let others = go (with_types types x.0) x.1 in (x.0 ∷ others.0, others.1)

-- external declarations in a row, in so many steps at most
unfoldable pub units_for : (steps : ℕ) → (types : ℕ → Bool) → List Token → List DeclarationTree × List Token
units_for zero types ts = ([], ts)
units_for (suc steps) types ts = units_on (units_for steps) types ts (external_at types ts)

-- 6.9p1, 6.7.8p3: as many as there are, each of which may add typedef names for those behind it, and what is left
unfoldable pub units : (types : ℕ → Bool) → List Token → List DeclarationTree × List Token
units types ts = units_for (length ts) types ts
