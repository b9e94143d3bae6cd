-- What goes on from an operand, from what its parts give.
use Rattle.std.proofs.Common.{◌≡◌, ℕ, List, drop, Option, Some, None, option_map, refl, ap, ◌∙◌}
use Rattle.pv_token.specs.declared.token_table.Token.{Token}
use Rattle.pv_tree.specs.declared.nodes.NodeId.{NodeId}
use Rattle.pv_tree.specs.Syntax.{ExpressionTree, Conditional}
use Rattle.pv_tree.specs.Lines.{expression_line}
use Rattle.pv_tree.specs.Spells.{Names}
use Rattle.pv_tree.specs.Tables.{Tables, expression_at, is_expression, Is, Extends}
use Rattle.pv_expr_forms.specs.declared.follows.Follow.{Follow}
use Rattle.pv_expr_forms.specs.declared.follows.Follow.TheVariants as follow
use Rattle.pv_expr_forms.specs.Reader.{Reads, is_colon, after, third_operand, call_behind, goes_on}
use Rattle.pv_expr_forms.specs.Answers.{Answers}
use Rattle.pv_expr_forms.proofs.Answered.{got}
use Rattle.pv_expr_forms.proofs.Listing.{expression_kept}

-- ---- what goes on from an operand

module _ (names : Names) (r : Reads) (left : ExpressionTree) (ts : List Token) (f : Follow) where
  pub call_is : f ≡ follow.Call → call_behind r left ts ≡ goes_on names r left f ts
  unfolding goes_on
  call_is e = rw e refl

-- ---- the last operand of a condition

module _ (r : Reads) (left b : ExpressionTree) (ts : List Token) where
  pub asked_none : after is_colon ts ≡ None → None ≡ third_operand r left b ts
  unfolding third_operand
  asked_none e = rw e refl

  pub asked_nothing : (rest : List Token) → after is_colon ts ≡ Some rest → None ≡ r 3 rest → None ≡ third_operand r left b ts
  unfolding third_operand
  asked_nothing rest e h = rw e (ap (option_map (λ (x : ExpressionTree × List Token). let y : ExpressionTree × List Token = (Conditional (expression_line left) left b x.0, x.1) in y)) h)

  asked_by : (rest : List Token) → after is_colon ts ≡ Some rest → (c : ExpressionTree) (end : List Token) → Some (c, end) ≡ r 3 rest → Some (Conditional (expression_line left) left b c, end) ≡ third_operand r left b ts
  unfolding third_operand
  asked_by rest e c end h = rw e (ap (option_map (λ (x : ExpressionTree × List Token). let y : ExpressionTree × List Token = (Conditional (expression_line left) left b x.0, x.1) in y)) h)

pub asked_done : (u v : Tables) (tokens : List Token) → Extends u v → (r : Reads) (at : ℕ) (left b : NodeId) → Is u is_expression left → Is u is_expression b
    → (next : ℕ) → after is_colon (drop at tokens) ≡ Some (drop next tokens) → (answer : Option (NodeId × ℕ)) → Answers v tokens answer (r 3 (drop next tokens)) → (n : NodeId) (end : ℕ) → answer ≡ Some (n, end)
    → (line : ℕ) → line ≡ expression_line (expression_at v.forest left)
    → Some (Conditional line (expression_at v.forest left) (expression_at v.forest b) (expression_at v.forest n), drop end tokens) ≡ third_operand r (expression_at u.forest left) (expression_at u.forest b) (drop at tokens)
asked_done u v tokens keeps r at left b there there' next e answer a n end some line l =
    let c = expression_at v.forest n in
    ap (λ (m : ℕ). Some (Conditional m (expression_at v.forest left) (expression_at v.forest b) c, drop end tokens)) l
    ∙ ap (λ (x : ExpressionTree). Some (Conditional (expression_line x) x (expression_at v.forest b) c, drop end tokens)) (expression_kept u v left keeps there)
    ∙ ap (λ (x : ExpressionTree). Some (Conditional (expression_line (expression_at u.forest left)) (expression_at u.forest left) x c, drop end tokens)) (expression_kept u v b keeps there')
    ∙ asked_by r (expression_at u.forest left) (expression_at u.forest b) (drop at tokens) (drop next tokens) e c (drop end tokens) (got v tokens answer _ n end a some).0
