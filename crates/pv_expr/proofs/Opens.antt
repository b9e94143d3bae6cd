-- What an operand is read behind.
use Rattle.std.proofs.Common.{◌≡◌, ℕ, true, false, Bool, List, drop, Option, Some, None, option_map, option_and_then, refl, ap, ◌∙◌}
use Rattle.pv_token.specs.declared.token_table.Token.{Token}
use Rattle.pv_token.specs.declared.token_table.TokenKind.{TokenKind}
use Rattle.pv_token.specs.declared.token_table.TokenKind.TheVariants as kind
use Rattle.pv_token.specs.declared.marks.Mark.TheVariants as mark
use Rattle.pv_tree.specs.declared.nodes.NodeId.{NodeId}
use Rattle.pv_tree.specs.Syntax.{ExpressionTree, Tree, Cast}
use Rattle.pv_tree.specs.Spells.{Names, begins_type}
use Rattle.pv_tree.specs.Tables.{Forest, Tables, as_declaration, expression_at, declaration_at, is_declaration, Extends}
use Rattle.pv_tree.proofs.Kept.{tree_kept, is_kept}
use Rattle.pv_expr_forms.specs.declared.follows.Prefix.{Prefix}
use Rattle.pv_expr_forms.specs.Follows.{prefix_of, prefix_operand, prefix_tree}
use Rattle.pv_expr_forms.specs.Reader.{Read, Reads, head_of, prefix_behind, is_open}
use Rattle.pv_expr_forms.specs.Parts.{leaf_of, measures_type, type_closed}
use Rattle.pv_expr_forms.specs.Answers.{Answers}
use Rattle.pv_expr_forms.proofs.Answered.{got}
use Rattle.pv_expr_forms.proofs.Firsts.{head_open, head_front, opened_cast, opened_paren}
use Rattle.pv_expr.specs.declared.nodes.Opening.{Opening}
use Rattle.pv_expr.specs.declared.nodes.Opening.TheVariants as opening
use Rattle.pv_expr.specs.Openings.{operand_of, IsOpening, opening_tree}

and_then_map : (f : ExpressionTree → ExpressionTree) (o : Read) → option_and_then (λ (x : ExpressionTree × List Token). let y : Read = Some (f x.0, x.1) in y) o ≡ option_map (λ (x : ExpressionTree × List Token). let y : ExpressionTree × List Token = (f x.0, x.1) in y) o
and_then_map f None = refl
and_then_map f (Some x) = refl

-- a parenthesis is no leaf
open_leaf : (is_type : ℕ → Bool) (line : ℕ) (k : TokenKind) (ts : List Token) → is_open k ≡ true → leaf_of is_type line k ts ≡ None
unfolding leaf_of
open_leaf is_type line (kind.Mark mark.OpenParen) ts e = refl
open_leaf is_type line _ ts e = absurd cc

module _ (names : Names) (r : Reads) (below line : ℕ) (k : TokenKind) (ts : List Token) where
  pub opens_operator : (f : Forest) (op : Prefix) → is_open k ≡ false → measures_type names k ts ≡ false → prefix_of k ≡ Some op
      → option_and_then (λ x. opening_tree f line (opening.Operator op) x.0 x.1) (r (prefix_operand op) ts) ≡ head_of names r below line k ts
  unfolding opening_tree prefix_behind
  opens_operator f op o m e = and_then_map (prefix_tree line op) (r (prefix_operand op) ts) ∙ head_front names r below line k ts op o m e

  pub opens_paren : (f : Forest) → is_open k ≡ true → begins_type names ts ≡ false → option_and_then (λ x. opening_tree f line opening.Paren x.0 x.1) (r 1 ts) ≡ head_of names r below line k ts
  unfolding opening_tree
  opens_paren f o b = opened_paren names r below line ts b ∙ head_open names r below line k ts o

  pub opens_cast : (f : Forest) (name : NodeId) (rest : List Token) → is_open k ≡ true → begins_type names ts ≡ true → type_closed names below ts ≡ Some (declaration_at f name, rest)
      → option_and_then (λ x. opening_tree f line (opening.Cast name) x.0 x.1) (r 14 rest) ≡ head_of names r below line k ts
  unfolding opening_tree
  opens_cast f name rest o b e = and_then_map (Cast line (declaration_at f name)) (r 14 rest) ∙ opened_cast names r below line ts (Some (declaration_at f name, rest)) b e ∙ head_open names r below line k ts o

  pub opens_nothing : (is_type : ℕ → Bool) → is_open k ≡ true → begins_type names ts ≡ true → type_closed names below ts ≡ None → leaf_of is_type line k ts ≡ head_of names r below line k ts
  opens_nothing is_type o b e = open_leaf is_type line k ts o ∙ opened_cast names r below line ts None b e ∙ head_open names r below line k ts o

-- ---- in a unit that has grown

pub opening_kept : (u v : Tables) (form : Opening) → Extends u v → IsOpening u form → IsOpening v form
opening_kept u v opening.Paren k h = tt
opening_kept u v (opening.Cast name) k h = is_kept u v is_declaration name k h
opening_kept u v (opening.Operator op) k h = tt

enclosed_kept : (u v : Tables) (form : Opening) (line : ℕ) (a : ExpressionTree) (ts : List Token) → Extends u v → IsOpening u form → opening_tree v.forest line form a ts ≡ opening_tree u.forest line form a ts
unfolding opening_tree
enclosed_kept u v opening.Paren line a ts k h = refl
enclosed_kept u v (opening.Cast name) line a ts k h = ap (λ (t : Tree). Some (Cast line (as_declaration t) a, ts)) (tree_kept u v name k h.0)
enclosed_kept u v (opening.Operator op) line a ts k h = refl

pub enclosed_nothing : (f : Forest) (line : ℕ) (form : Opening) (r : Reads) (ts : List Token) (level : ℕ) → level ≡ operand_of form → None ≡ r level ts → None ≡ option_and_then (λ x. opening_tree f line form x.0 x.1) (r (operand_of form) ts)
enclosed_nothing f line form r ts level l h = ap (option_and_then (λ (x : ExpressionTree × List Token). opening_tree f line form x.0 x.1)) (h ∙ ap (λ (m : ℕ). r m ts) l)

pub enclosed_done : (u v : Tables) (tokens : List Token) → Extends u v → (line : ℕ) (form : Opening) → IsOpening u form → (r : Reads) (ts : List Token) (level : ℕ) → level ≡ operand_of form
    → (answer : Option (NodeId × ℕ)) → Answers v tokens answer (r level ts) → (n : NodeId) (end : ℕ) → answer ≡ Some (n, end)
    → opening_tree v.forest line form (expression_at v.forest n) (drop end tokens) ≡ option_and_then (λ x. opening_tree u.forest line form x.0 x.1) (r (operand_of form) ts)
enclosed_done u v tokens k line form h r ts level l answer a n end some =
    enclosed_kept u v form line (expression_at v.forest n) (drop end tokens) k h
    ∙ ap (option_and_then (λ (x : ExpressionTree × List Token). opening_tree u.forest line form x.0 x.1)) ((got v tokens answer _ n end a some).0 ∙ ap (λ (m : ℕ). r m ts) l)
