-- A bridge: what stands before an operand: an operator, a type name in parentheses, a parenthesis.
use Rattle.std.specs.Prelude.{◌≡◌, ◌≤◌, ℕ, Bool, false, List, length, drop, Option, Some, None, MatchOption, option_and_then}
use Rattle.pv_token.specs.declared.token_table.Token.{Token}
use Rattle.pv_token.specs.declared.token_table.TokenKind.{TokenKind}
use Rattle.pv_tree.specs.declared.nodes.NodeId.{NodeId}
use Rattle.pv_tree.specs.Spells.{Names}
use Rattle.pv_tree.specs.Syntax.{ExpressionTree, Cast, DeclarationTree}
use Rattle.pv_tree.specs.Tables.{Forest, Tables, declaration_at, is_declaration, Is}
use Rattle.pv_expr_forms.specs.Follows.{prefix_operand, prefix_tree}
use Rattle.pv_expr_forms.specs.Parts.{leaf_of, measures_type}
use Rattle.pv_expr_forms.specs.Reader.{Read, Reads, paren_end, head_of}
use Rattle.pv_expr.specs.declared.nodes.Opening.{Opening}
use Rattle.pv_expr.specs.declared.nodes.Opening.TheVariants as opening

-- 6.5.1p1, 6.5.3p1, 6.5.4p1: the level of the operand
abbrev pub operand_of : Opening → ℕ
operand_of opening.Paren = 1
operand_of (opening.Cast name) = 14
operand_of (opening.Operator op) = prefix_operand op

-- the type name of a cast (6.5.4p1) is one
abbrev pub IsOpening : Tables → Opening → Type 0
IsOpening u (opening.Cast name) = Is u is_declaration name
IsOpening u _ = Unit {0}

-- 6.5.1p1, 6.5.3p1, 6.5.4p1: the tree that it makes of an operand, with the tokens behind
unfoldable pub opening_tree : Forest → (line : ℕ) → Opening → ExpressionTree → List Token → Read
opening_tree f line opening.Paren a ts = paren_end line a ts
opening_tree f line (opening.Cast name) a ts = Some (Cast line (declaration_at f name) a, ts)
opening_tree f line (opening.Operator op) a ts = Some (prefix_tree line op a, ts)

-- what reading an operand behind an opening gives (6.5.1p1, 6.5.3p1, 6.5.4p1)
abbrev pub opened_by : Forest → Reads → (line : ℕ) → Opening → List Token → Read
opened_by f read line form ts = option_and_then (λ x. opening_tree f line form x.0 x.1) (read (operand_of form) ts)

-- a token of a kind, which ends at a place and measures no type, opens this before an operand, or nothing: it is an operand itself (6.5.1p1, 6.5.3p1, 6.5.4p1)
abbrev pub OpensAt : Names → (is_type : ℕ → Bool) → Tables → List Token → TokenKind → (at below : ℕ) → Option (Opening × ℕ) → Type 0
OpensAt names is_type u tokens kind at below answer = let behind = drop at tokens in MatchOption answer
    ((read : Reads) (line : ℕ) → measures_type names kind behind ≡ false → leaf_of is_type line kind behind ≡ head_of names read below line kind behind)
    (λ x. ((read : Reads) (line : ℕ) → measures_type names kind behind ≡ false → opened_by u.forest read line x.0 (drop x.1 tokens) ≡ head_of names read below line kind behind) × IsOpening u x.0 × (x.1 ≤ length tokens))

-- the type name (6.7.7) that is found, if one is, is a node of the unit and what reading on lists gives, and the place behind it is among the tokens
abbrev pub IsTypeName : Tables → List Token → Option (NodeId × ℕ) → Option (DeclarationTree × List Token) → Type 0
IsTypeName u tokens answer reading = MatchOption answer (reading ≡ None)
    (λ x. (reading ≡ Some (declaration_at u.forest x.0, drop x.1 tokens)) × Is u is_declaration x.0 × (x.1 ≤ length tokens))
