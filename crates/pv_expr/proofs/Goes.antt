-- A tree goes on as its form says, with an operand or without.
use Rattle.std.proofs.Common.{◌≡◌, ◌≤◌, ◌<◌, ℕ, List, ◌∷◌, drop, Option, Some, None, option_map, option_and_then, refl, sym, ap, ◌∙◌, subst, nat_eq}
use Rattle.std.proofs.lemmas.Bool.{le-leb}
use Rattle.indexmap.specs.IndexSet.{IndexSet, contains}
use Rattle.pv_token.specs.declared.token_table.Token.{Token}
use Rattle.pv_tree.specs.declared.nodes.NodeId.{NodeId}
use Rattle.pv_tree.specs.Syntax.{ExpressionTree, Member, Arrow}
use Rattle.pv_tree.specs.Depths.{expression_depth}
use Rattle.pv_tree.specs.Spells.{Names}
use Rattle.pv_tree.specs.Levels.{rank}
use Rattle.pv_tree.specs.Lines.{expression_line}
use Rattle.pv_tree.specs.Tables.{Tables, expression_at, is_expression, Is, Extends}
use Rattle.pv_tree.specs.TypeNames.{TypeMap, names_of, AreTied}
use Rattle.pv_expr_forms.specs.declared.follows.Follow.{Follow}
use Rattle.pv_expr_forms.specs.declared.follows.Follow.TheVariants as follow
use Rattle.pv_expr_forms.specs.Follows.{join_tree, follow_of, follow_rank, follow_left}
use Rattle.pv_expr_forms.specs.Reader.{Reads, read, longer_tree, tree_on, goes_on, third_operand, index_end}
use Rattle.pv_expr_forms.specs.Known.{names_in}
use Rattle.pv_expr_forms.specs.Answers.{Answers}
use Rattle.pv_expr_forms.proofs.Answered.{got}
use Rattle.pv_expr_forms.proofs.Firsts.{named_is}
use Rattle.pv_expr_forms.proofs.Listing.{expression_kept}
use Rattle.pv_expr_forms.proofs.Naming.{leb_not}
use Rattle.pv_expr_forms.proofs.Readings.{ask_is}
use Rattle.pv_expr.specs.Going.{operand_level, with_suffix, with_right}

abbrev level_or : Option ℕ → ℕ
level_or None = 0
level_or (Some n) = n

-- ---- without an operand

suffix_of : (names : Names) (r : Reads) (left : ExpressionTree) (ts : List Token) (f : Follow) → operand_level f ≡ None → (f ≡ follow.Call → ⊥) → with_suffix names.is_type left f ts ≡ goes_on names r left f ts
unfolding with_suffix goes_on
suffix_of names r left ts (follow.Join op) e h = absurd cc
suffix_of names r left ts follow.Ask e h = absurd cc
suffix_of names r left ts follow.Index e h = absurd cc
suffix_of names r left ts follow.Call e h = absurd (h refl)
suffix_of names r left ts follow.Dot e h = named_is names (Member (expression_line left) left) ts
suffix_of names r left ts follow.Arrow e h = named_is names (Arrow (expression_line left) left) ts
suffix_of names r left ts follow.Increment e h = refl
suffix_of names r left ts follow.Decrement e h = refl

pub suffix_is : {S : Type 0} (typedefs : IndexSet ℕ S) (types : TypeMap) (u : Tables) (tokens : List Token) (r : Reads) (left : ExpressionTree) (ts : List Token) (f : Follow) → operand_level f ≡ None → (f ≡ follow.Call → ⊥)
    → with_suffix (contains nat_eq typedefs) left f ts ≡ goes_on (names_in typedefs types u tokens) r left f ts
unfolding names_in names_of
suffix_is typedefs types u tokens r left ts f e h = suffix_of (names_in typedefs types u tokens) r left ts f e h

-- ---- with an operand

pub operand_none : (names : Names) (r : Reads) (left : ExpressionTree) (ts : List Token) (f : Follow) (level : ℕ) → operand_level f ≡ Some level → None ≡ r level ts → None ≡ goes_on names r left f ts
unfolding goes_on
operand_none names r left ts (follow.Join op) level e h =
    ap (option_map (λ (x : ExpressionTree × List Token). let y : ExpressionTree × List Token = (join_tree op left x.0, x.1) in y)) (h ∙ ap (λ (m : ℕ). r m ts) (sym (ap level_or e)))
operand_none names r left ts follow.Ask level e h = ap (option_and_then (λ (x : ExpressionTree × List Token). third_operand r left x.0 x.1)) (h ∙ ap (λ (m : ℕ). r m ts) (sym (ap level_or e)))
operand_none names r left ts follow.Index level e h = ap (option_and_then (λ (x : ExpressionTree × List Token). index_end left x.0 x.1)) (h ∙ ap (λ (m : ℕ). r m ts) (sym (ap level_or e)))
operand_none names r left ts follow.Call level e h = absurd cc
operand_none names r left ts follow.Dot level e h = absurd cc
operand_none names r left ts follow.Arrow level e h = absurd cc
operand_none names r left ts follow.Increment level e h = absurd cc
operand_none names r left ts follow.Decrement level e h = absurd cc

operand_some : (names : Names) (r : Reads) (left right : ExpressionTree) (ts rest : List Token) (f : Follow) (level : ℕ) → operand_level f ≡ Some level → (f ≡ follow.Ask → ⊥) → Some (right, rest) ≡ r level ts
    → with_right left right f rest ≡ goes_on names r left f ts
unfolding with_right goes_on
operand_some names r left right ts rest (follow.Join op) level e n h =
    ap (option_map (λ (x : ExpressionTree × List Token). let y : ExpressionTree × List Token = (join_tree op left x.0, x.1) in y)) (h ∙ ap (λ (m : ℕ). r m ts) (sym (ap level_or e)))
operand_some names r left right ts rest follow.Index level e n h = ap (option_and_then (λ (x : ExpressionTree × List Token). index_end left x.0 x.1)) (h ∙ ap (λ (m : ℕ). r m ts) (sym (ap level_or e)))
operand_some names r left right ts rest follow.Ask level e n h = absurd (n refl)
operand_some names r left right ts rest follow.Call level e n h = absurd cc
operand_some names r left right ts rest follow.Dot level e n h = absurd cc
operand_some names r left right ts rest follow.Arrow level e n h = absurd cc
operand_some names r left right ts rest follow.Increment level e n h = absurd cc
operand_some names r left right ts rest follow.Decrement level e n h = absurd cc

pub operand_done : (u v : Tables) (tokens : List Token) → Extends u v → (names : Names) (r : Reads) (at : ℕ) (left : NodeId) → Is u is_expression left → (f : Follow) (level : ℕ) → operand_level f ≡ Some level → (f ≡ follow.Ask → ⊥)
    → (answer : Option (NodeId × ℕ)) → Answers v tokens answer (r level (drop at tokens)) → (n : NodeId) (next : ℕ) → answer ≡ Some (n, next)
    → with_right (expression_at v.forest left) (expression_at v.forest n) f (drop next tokens) ≡ goes_on names r (expression_at u.forest left) f (drop at tokens)
operand_done u v tokens keeps names r at left there f level e h answer a n next some =
    ap (λ (x : ExpressionTree). with_right x (expression_at v.forest n) f (drop next tokens)) (expression_kept u v left keeps there)
    ∙ operand_some names r (expression_at u.forest left) (expression_at v.forest n) (drop at tokens) (drop next tokens) f level e h (got v tokens answer _ n next a some).0

-- a condition, whose middle operand is read
pub operand_asks : {S : Type 0} (typedefs : IndexSet ℕ S) (types : TypeMap) (u v : Tables) (tokens : List Token) → AreTied types u tokens → Extends u v → (below at : ℕ) (left : NodeId) → Is u is_expression left
    → (f : Follow) (level : ℕ) → operand_level f ≡ Some level → f ≡ follow.Ask
    → (answer : Option (NodeId × ℕ)) → Answers v tokens answer (read (names_in typedefs types u tokens) below level (drop at tokens)) → (n : NodeId) (next : ℕ) → answer ≡ Some (n, next)
    → third_operand (read (names_in typedefs types v tokens) below) (expression_at v.forest left) (expression_at v.forest n) (drop next tokens)
    ≡ goes_on (names_in typedefs types u tokens) (read (names_in typedefs types u tokens) below) (expression_at u.forest left) f (drop at tokens)
operand_asks typedefs types u v tokens tied keeps below at left h f level e is answer a n next some =
    let one : level ≡ 1 = sym (ap level_or e) ∙ ap (λ (g : Follow). level_or (operand_level g)) is in
    let b = subst (λ (m : ℕ). Answers v tokens answer (read (names_in typedefs types u tokens) below m (drop at tokens))) one a in
    ask_is typedefs types u v tokens tied keeps below at left h answer b n next some f is

-- ---- what does not go on

module _ (names : Names) (r : Reads) (level below : ℕ) (left : ExpressionTree) (t : Token) (ts rest : List Token) (here : ts ≡ t ∷ rest) (shallow : expression_depth left ≤ below) (f : Follow) (e : follow_of t.kind ≡ Some f) where
  pub longer_low : follow_rank f < level → None ≡ longer_tree names r level below left ts
  unfolding longer_tree tree_on
  longer_low h = rw (here, le-leb (expression_depth left) below shallow, e, leb_not level (follow_rank f) h) refl

  pub longer_loose : level ≤ follow_rank f → rank left < follow_left f → None ≡ longer_tree names r level below left ts
  unfolding longer_tree tree_on
  longer_loose tight h = rw (here, le-leb (expression_depth left) below shallow, e, le-leb level (follow_rank f) tight, leb_not (follow_left f) (rank left) h) refl
