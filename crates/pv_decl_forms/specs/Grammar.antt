-- A bridge: what it is for a declaration, for the head of a function and for a type name to spell a run of tokens.
use Rattle.std.specs.Prelude.{◌≡◌, ◌≤◌, ℕ, Bool, true, false, ◌&&◌, List, [], ◌∷◌, drop, slice_range}
use Rattle.pv_token.specs.declared.token_table.Token.{Token}
use Rattle.pv_tree.specs.Syntax.{DeclarationTree, Declaration, Parameter, OfDeclarator, Present}
use Rattle.pv_tree.specs.Depths.{declaration_depth}
use Rattle.pv_tree.specs.Spelling.{declaration_tokens}
use Rattle.pv_tree.specs.Grammar.{kinds}
use Rattle.pv_tree.specs.Spells.{Names, Fits}
use Rattle.pv_tree.specs.Places.{is_named, is_type_name}
use Rattle.pv_tree.specs.Fitting.{DeclarationFits}
use Rattle.pv_decl_forms.specs.Pieces.{is_open_brace}

-- `{` is the next token (6.9.1p1)
abbrev pub opens_block : List Token → Bool
opens_block [] = false
opens_block (t ∷ ts) = is_open_brace t.kind

-- a declaration (6.7), or the specifiers and the declarator of a function before its block (6.9.1), as a parameter that has a name
abbrev pub is_declared : DeclarationTree → (left : List Token) → Bool
is_declared (Declaration line specs declared) left = true
is_declared (Parameter line specs (Present (OfDeclarator d))) left = is_named d && opens_block left
is_declared _ left = false

-- one of at most so much depth spells the tokens from at to before end (6.7p1, 6.9.1p1)
pub record SpellsDeclaration (names : Names) (deep : ℕ) (tokens : List Token) (at end : ℕ) (d : DeclarationTree) : Type 0 where
  pub stands : is_declared d (drop end tokens) ≡ true
  pub fits : DeclarationFits names.is_type (Fits names) d (drop at tokens)
  pub shallow : declaration_depth d ≤ deep
  pub is : declaration_tokens d ≡ kinds (slice_range tokens at end)

-- a type name does (6.7.7p1)
pub record SpellsTypeName (names : Names) (deep : ℕ) (tokens : List Token) (at end : ℕ) (d : DeclarationTree) : Type 0 where
  pub stands : is_type_name d ≡ true
  pub fits : DeclarationFits names.is_type (Fits names) d (drop at tokens)
  pub shallow : declaration_depth d ≤ deep
  pub is : declaration_tokens d ≡ kinds (slice_range tokens at end)
