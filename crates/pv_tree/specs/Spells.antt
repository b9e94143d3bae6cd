-- A bridge: what it is for an expression to spell a run of tokens, where the type names are known.
use Rattle.std.specs.Prelude.{ℕ, Bool, Option, List, true, false, [], ◌∷◌, ◌≡◌, Some, length, drop, ◌≤◌, slice_range}
use Rattle.pv_token.specs.declared.token_table.Token.{Token}
use Rattle.pv_token.specs.declared.words.Word.{Word}
use Rattle.pv_token.specs.declared.words.Word.TheVariants as word
use Rattle.pv_token.specs.declared.token_table.TokenKind.{TokenKind}
use Rattle.pv_token.specs.declared.token_table.TokenKind.TheVariants as kind
use Rattle.pv_tree.specs.Syntax.{DeclarationTree, Name, ExpressionTree, ArgumentTrees}
use Rattle.pv_tree.specs.Spelling.{declaration_tokens, expression_tokens}
use Rattle.pv_tree.specs.Grammar.{FitsBy, ArgumentsFitBy, kinds}
use Rattle.pv_tree.specs.Depths.{expression_depth}
use Rattle.pv_tree.specs.Levels.{rank}

-- what is known of names: which are typedef names (6.7.8), and which type name begins where some tokens are left, with the tokens behind it
pub record Names : Type 0 where
  pub is_type : ℕ → Bool
  pub type_at : List Token → Option (DeclarationTree × List Token)

-- a keyword that begins specifiers (6.7p1)
abbrev pub begins_specifiers : Word → Bool
begins_specifiers word.Typedef = true
begins_specifiers word.Extern = true
begins_specifiers word.Static = true
begins_specifiers word.Const = true
begins_specifiers word.Void = true
begins_specifiers word.Char = true
begins_specifiers word.Short = true
begins_specifiers word.Int = true
begins_specifiers word.Long = true
begins_specifiers word.Signed = true
begins_specifiers word.Unsigned = true
begins_specifiers word.Bool = true
begins_specifiers word.Struct = true
begins_specifiers word.Union = true
begins_specifiers word.Enum = true
begins_specifiers _ = false

-- a token that begins a type name: a word of specifiers, or a typedef name (6.7.7p1, 6.7.8p3)
abbrev pub kind_begins_type : Names → TokenKind → Bool
kind_begins_type names (kind.Name n) = names.is_type n
kind_begins_type names (kind.Word w) = begins_specifiers w
kind_begins_type names _ = false

-- a token that begins a type name begins one: what stands in parentheses is then no expression (6.5.3p1, 6.5.4p1)
abbrev pub begins_type : Names → List Token → Bool
begins_type names [] = false
begins_type names (t ∷ ts) = kind_begins_type names t.kind

-- the type name is the one that begins here (6.7.7p1)
pub record IsTypeName (names : Names) (type : DeclarationTree) (here : List Token) : Type 0 where
  pub begins : begins_type names here ≡ true
  pub is : names.type_at here ≡ Some (type, drop (length (declaration_tokens type)) here)

-- each operand has a level that its place allows, and each type name is the one that begins at its place
abbrev pub Fits : Names → ExpressionTree → (here : List Token) → Type 0
Fits names a here = FitsBy names.is_type (IsTypeName names) a here

-- 6.5.2p1: each argument fits its place in this way
abbrev pub FitsArguments : Names → ArgumentTrees → (here : List Token) → Type 0
FitsArguments names arguments here = ArgumentsFitBy names.is_type (IsTypeName names) arguments here

-- an expression of a level and of at most so much depth, that spells the tokens from at to before end
-- worked: calls, chains, never_left, chooses, measures
pub record Spells (names : Names) (level deep : ℕ) (tokens : List Token) (at end : ℕ) (a : ExpressionTree) : Type 0 where
  pub fits : Fits names a (drop at tokens)
  pub tight : level ≤ rank a
  pub shallow : expression_depth a ≤ deep
  pub is : expression_tokens a ≡ kinds (slice_range tokens at end)
