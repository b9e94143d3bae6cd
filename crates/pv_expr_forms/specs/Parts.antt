-- A bridge: parts of a reading that read no expression.
use Rattle.std.specs.Prelude.{ℕ, suc, Bool, false, nat_le, List, [], ◌∷◌, drop, Option, Some, None, option_map, option_and_then, if◌then◌else◌}
use Rattle.pv_token.specs.declared.token_table.Token.{Token}
use Rattle.pv_token.specs.declared.token_table.TokenKind.{TokenKind}
use Rattle.pv_token.specs.declared.token_table.TokenKind.TheVariants as kind
use Rattle.pv_token.specs.declared.words.Word.TheVariants as word
use Rattle.pv_tree.specs.Syntax.{ExpressionTree, Name, Number, Character, Text, DeclarationTree}
use Rattle.pv_tree.specs.Depths.{declaration_depth}
use Rattle.pv_tree.specs.Spells.{Names}
use Rattle.pv_expr_forms.specs.Reader.{Read, is_close, is_text, after, texts_in_row, opens_type}

-- a name that is no typedef name, a constant or string literals in a row (6.5.1p1)
unfoldable pub leaf_of : (ℕ → Bool) → (line : ℕ) → TokenKind → List Token → Read
leaf_of is_type line (kind.Name n) ts = if is_type n then None else Some (Name line n, ts)
leaf_of is_type line (kind.Number value decimal unsigned longs) ts = Some (Number line value decimal unsigned longs, ts)
leaf_of is_type line (kind.Character value) ts = Some (Character line value, ts)
leaf_of is_type line (kind.Text n) ts = Some (Text line n (texts_in_row (suc n) ts), drop (texts_in_row (suc n) ts) ts)
leaf_of is_type line _ ts = None

-- the string literal of a number is the next token (6.4.5p5)
abbrev pub is_text_next : (n : ℕ) → List Token → Bool
is_text_next n [] = false
is_text_next n (t ∷ ts) = is_text n t.kind

-- `sizeof` with a type name in parentheses behind it (6.5.3.4)
abbrev pub measures_type : Names → TokenKind → List Token → Bool
measures_type names (kind.Word word.Sizeof) ts = opens_type names ts
measures_type names _ ts = false

-- a type name of at most so much depth, and a closing parenthesis behind it (6.5.3p1, 6.5.4p1)
unfoldable pub type_closed : Names → (below : ℕ) → List Token → Option (DeclarationTree × List Token)
type_closed names below ts =
    option_and_then (λ x. if nat_le (declaration_depth x.0) below then option_map (λ rest. (x.0, rest)) (after is_close x.1) else None) (names.type_at ts)

-- a name that is no typedef name, as the next token (6.5.2.3p1)
abbrev pub name_of_kind : (ℕ → Bool) → TokenKind → Option ℕ
name_of_kind is_type (kind.Name n) = if is_type n then None else Some n
name_of_kind is_type _ = None

-- the same, with what is left behind it
unfoldable pub name_next : (ℕ → Bool) → List Token → Option (ℕ × List Token)
name_next is_type [] = None
name_next is_type (t ∷ ts) = option_map (λ n. (n, ts)) (name_of_kind is_type t.kind)

-- what is made with such a name (6.5.2p1)
unfoldable pub made_with_name : (ℕ → Bool) → (ℕ → ExpressionTree) → List Token → Read
made_with_name is_type make ts = option_map (λ x. (make x.0, x.1)) (name_next is_type ts)
