-- What a reading gives, from what its parts give.
use Rattle.std.proofs.Common.{◌≡◌, ◌≤◌, ◌<◌, ◌+◌, ℕ, true, false, List, [], ◌∷◌, drop, Option, Some, None, option_map, option_and_then, refl, sym, ap, ◌∙◌, nat_eq}
use Rattle.std.proofs.lemmas.Bool.{le-leb}
use Rattle.std.proofs.lemmas.List.{drop-drop}
use Rattle.indexmap.specs.IndexSet.{IndexSet, contains}
use Rattle.pv_token.specs.declared.token_table.Token.{Token}
use Rattle.pv_token.specs.declared.token_table.TokenKind.{TokenKind}
use Rattle.pv_tree.specs.declared.nodes.NodeId.{NodeId}
use Rattle.pv_tree.specs.Syntax.{ExpressionTree, Cast, Tree}
use Rattle.pv_tree.specs.Depths.{expression_depth}
use Rattle.pv_tree.specs.Levels.{rank}
use Rattle.pv_tree.specs.Spells.{Names, begins_type}
use Rattle.pv_tree.specs.Tables.{Tables, as_declaration, expression_at, declaration_at, is_expression, is_declaration, Is, Extends}
use Rattle.pv_tree.specs.TypeNames.{TypeMap, names_of, AreTied}
use Rattle.pv_tree.proofs.Kept.{tree_kept}
use Rattle.pv_expr_forms.specs.declared.follows.Follow.{Follow}
use Rattle.pv_expr_forms.specs.declared.follows.Follow.TheVariants as follow
use Rattle.pv_expr_forms.specs.Follows.{prefix_of, follow_of, follow_rank, follow_left}
use Rattle.pv_expr_forms.specs.Reader.{Read, Reads, read, deeper, head, head_of, behind_open, paren_end, sizeof_named_type, longest_tree, longer_tree, tree_on, goes_on, third_operand, is_open}
use Rattle.pv_expr_forms.specs.Known.{names_in}
use Rattle.pv_expr_forms.specs.Parts.{leaf_of, measures_type, type_closed}
use Rattle.pv_expr_forms.specs.Answers.{Answers}
use Rattle.pv_expr_forms.proofs.Answered.{got, got_none}
use Rattle.pv_expr_forms.proofs.Firsts.{head_leaf, head_measure, opened_cast, opened_paren}
use Rattle.pv_expr_forms.proofs.Listing.{expression_kept}
use Rattle.pv_expr_forms.proofs.Naming.{leb_not, names_kept}

-- nothing was read
pub nothing : (u : Tables) (tokens : List Token) (reading : Read) → None ≡ reading → Answers u tokens None reading
nothing u tokens reading e = record { is = e; there = tt }

-- ---- by the first token

pub head_end : (names : Names) (r : Reads) (below : ℕ) (ts : List Token) → ts ≡ [] → None ≡ head names r below ts
unfolding head
head_end names r below ts e = rw e refl

pub head_first : (names : Names) (r : Reads) (below : ℕ) (t : Token) (ts rest : List Token) (o : Read) → ts ≡ t ∷ rest → o ≡ head_of names r below t.line t.kind rest → o ≡ head names r below ts
unfolding head
head_first names r below t ts rest o e h = rw e h

pub leaf_first : {S : Type 0} (typedefs : IndexSet ℕ S) (types : TypeMap) (u : Tables) (tokens : List Token) (r : Reads) (below line : ℕ) (k : TokenKind) (ts : List Token) → is_open k ≡ false → prefix_of k ≡ None
    → leaf_of (contains nat_eq typedefs) line k ts ≡ head_of (names_in typedefs types u tokens) r below line k ts
unfolding names_in names_of
leaf_first typedefs types u tokens r below line k ts o e = head_leaf (names_in typedefs types u tokens) r below line k ts o e

pub measure_first : (names : Names) (r : Reads) (below line : ℕ) (k : TokenKind) (tokens : List Token) (at : ℕ) → measures_type names k (drop at tokens) ≡ true
    → option_and_then (λ x. sizeof_named_type below line x.0 x.1) (names.type_at (drop (at + 1) tokens)) ≡ head_of names r below line k (drop at tokens)
measure_first names r below line k tokens at e =
    ap (λ (ts : List Token). option_and_then (λ x. sizeof_named_type below line x.0 x.1) (names.type_at ts)) (sym (drop-drop 1 at tokens))
    ∙ head_measure names r below line k (drop at tokens) e

-- ---- one level of depth more

module _ (names : Names) (r : Reads) (level below : ℕ) (ts : List Token) where
  pub deeper_none : None ≡ head names r below ts → None ≡ deeper names r below level ts
  unfolding deeper
  deeper_none e = rw (← e) refl

  pub deeper_low : (a : ExpressionTree) (rest : List Token) → Some (a, rest) ≡ head names r below ts → rank a < level → None ≡ deeper names r below level ts
  unfolding deeper
  deeper_low a rest e h = rw (← e, leb_not level (rank a) h) refl

  pub deeper_on : (a : ExpressionTree) (rest : List Token) → Some (a, rest) ≡ head names r below ts → level ≤ rank a → Some (longest_tree names r level below a rest) ≡ deeper names r below level ts
  unfolding deeper
  deeper_on a rest e h = rw (← e, le-leb level (rank a) h) refl

-- what goes on in a unit that has grown is what goes on under the names at the start
pub grown_in : {S : Type 0} (typedefs : IndexSet ℕ S) (types : TypeMap) (u v : Tables) (tokens : List Token) → AreTied types u tokens → Extends u v → (level below : ℕ) (a : ExpressionTree) (ts : List Token)
    → Some (longest_tree (names_in typedefs types v tokens) (read (names_in typedefs types v tokens) below) level below a ts) ≡ Some (longest_tree (names_in typedefs types u tokens) (read (names_in typedefs types u tokens) below) level below a ts)
grown_in typedefs types u v tokens tied keeps level below a ts = ap (λ (n : Names). Some (longest_tree n (read n below) level below a ts)) (names_kept typedefs types u v tokens tied keeps)

pub longer_in : {S : Type 0} (typedefs : IndexSet ℕ S) (types : TypeMap) (u v w : Tables) (tokens : List Token) → AreTied types u tokens → Extends u v → (level below : ℕ) (left : ExpressionTree) (ts : List Token) (answer : Option (NodeId × ℕ))
    → Answers w tokens answer (longer_tree (names_in typedefs types v tokens) (read (names_in typedefs types v tokens) below) level below left ts) → Answers w tokens answer (longer_tree (names_in typedefs types u tokens) (read (names_in typedefs types u tokens) below) level below left ts)
longer_in typedefs types u v w tokens tied keeps level below left ts answer a = record { is = a.is ∙ ap (λ (n : Names). longer_tree n (read n below) level below left ts) (names_kept typedefs types u v tokens tied keeps); there = a.there }

-- ---- the next longer tree

pub longer_deep : (names : Names) (r : Reads) (level below : ℕ) (left : ExpressionTree) (ts : List Token) → below < expression_depth left → None ≡ longer_tree names r level below left ts
unfolding longer_tree
longer_deep names r level below left [] h = refl
longer_deep names r level below left (t ∷ ts) h = rw (leb_not (expression_depth left) below h) refl

pub longer_end : (names : Names) (r : Reads) (level below : ℕ) (left : ExpressionTree) (ts : List Token) → ts ≡ [] → None ≡ longer_tree names r level below left ts
unfolding longer_tree
longer_end names r level below left ts e = rw e refl

module _ (names : Names) (r : Reads) (level below : ℕ) (left : ExpressionTree) (t : Token) (ts rest : List Token) (here : ts ≡ t ∷ rest) (shallow : expression_depth left ≤ below) where
  longer_tried : (o : Option Follow) → follow_of t.kind ≡ o → tree_on names r level left o rest ≡ longer_tree names r level below left ts
  unfolding longer_tree
  longer_tried o e = rw (here, le-leb (expression_depth left) below shallow, e) refl

  pub longer_other : follow_of t.kind ≡ None → None ≡ longer_tree names r level below left ts
  unfolding tree_on
  longer_other e = longer_tried None e

  pub longer_follows : (f : Follow) → follow_of t.kind ≡ Some f → level ≤ follow_rank f → follow_left f ≤ rank left → goes_on names r left f rest ≡ longer_tree names r level below left ts
  unfolding tree_on
  longer_follows f e tight loose =
      let go : goes_on names r left f rest ≡ tree_on names r level left (Some f) rest = rw (le-leb level (follow_rank f) tight, le-leb (follow_left f) (rank left) loose) refl in
      go ∙ longer_tried (Some f) e

-- ---- behind an opening parenthesis

module _ (names : Names) (r : Reads) (below line : ℕ) (u v : Tables) (tokens : List Token) (at : ℕ) where
  module _ (b : begins_type names (drop at tokens) ≡ true) (type : NodeId) (next : ℕ) (e : type_closed names below (drop at tokens) ≡ Some (declaration_at u.forest type, drop next tokens))
      (answer : Option (NodeId × ℕ)) (a : Answers v tokens answer (r 14 (drop next tokens))) where
    casts : (o : Read) → o ≡ r 14 (drop next tokens) → option_map (λ x. (Cast line (declaration_at u.forest type) x.0, x.1)) o ≡ behind_open names r below line (drop at tokens)
    casts o h =
        ap (option_map (λ (x : ExpressionTree × List Token). let y : ExpressionTree × List Token = (Cast line (declaration_at u.forest type) x.0, x.1) in y)) h
        ∙ opened_cast names r below line (drop at tokens) (Some (declaration_at u.forest type, drop next tokens)) b e

    pub cast_nothing : answer ≡ None → None ≡ behind_open names r below line (drop at tokens)
    cast_nothing h = casts None (got_none v tokens answer _ a h)

    pub cast_done : (n : NodeId) (end : ℕ) → answer ≡ Some (n, end) → Extends u v → Is u is_declaration type → Some (Cast line (declaration_at v.forest type) (expression_at v.forest n), drop end tokens) ≡ behind_open names r below line (drop at tokens)
    cast_done n end h k d =
        ap (λ (t : Tree). Some (Cast line (as_declaration t) (expression_at v.forest n), drop end tokens)) (tree_kept u v type k d.0)
        ∙ casts (Some (expression_at v.forest n, drop end tokens)) (got v tokens answer _ n end a h).0

  module _ (b : begins_type names (drop at tokens) ≡ false) (answer : Option (NodeId × ℕ)) (a : Answers v tokens answer (r 1 (drop at tokens))) where
    parens : (o : Read) → o ≡ r 1 (drop at tokens) → option_and_then (λ x. paren_end line x.0 x.1) o ≡ behind_open names r below line (drop at tokens)
    parens o h = ap (option_and_then (λ (x : ExpressionTree × List Token). paren_end line x.0 x.1)) h ∙ opened_paren names r below line (drop at tokens) b

    pub paren_nothing : answer ≡ None → None ≡ behind_open names r below line (drop at tokens)
    paren_nothing h = parens None (got_none v tokens answer _ a h)

    pub paren_done : (n : NodeId) (end : ℕ) → answer ≡ Some (n, end) → paren_end line (expression_at v.forest n) (drop end tokens) ≡ behind_open names r below line (drop at tokens)
    paren_done n end h = parens (Some (expression_at v.forest n, drop end tokens)) (got v tokens answer _ n end a h).0

-- ---- behind an operand

-- a condition, whose middle operand is read
pub ask_is : {S : Type 0} (typedefs : IndexSet ℕ S) (types : TypeMap) (u v : Tables) (tokens : List Token) → AreTied types u tokens → Extends u v → (below at : ℕ) (left : NodeId) → Is u is_expression left
    → (answer : Option (NodeId × ℕ)) → Answers v tokens answer (read (names_in typedefs types u tokens) below 1 (drop at tokens)) → (n : NodeId) (next : ℕ) → answer ≡ Some (n, next) → (f : Follow) → f ≡ follow.Ask
    → third_operand (read (names_in typedefs types v tokens) below) (expression_at v.forest left) (expression_at v.forest n) (drop next tokens)
    ≡ goes_on (names_in typedefs types u tokens) (read (names_in typedefs types u tokens) below) (expression_at u.forest left) f (drop at tokens)
unfolding goes_on
ask_is typedefs types u v tokens tied keeps below at left h answer a n next e f is = rw is (
    ap (λ (m : Names). third_operand (read m below) (expression_at v.forest left) (expression_at v.forest n) (drop next tokens)) (names_kept typedefs types u v tokens tied keeps)
    ∙ ap (λ (x : ExpressionTree). third_operand (read (names_in typedefs types u tokens) below) x (expression_at v.forest n) (drop next tokens)) (expression_kept u v left keeps h)
    ∙ ap (option_and_then (λ (x : ExpressionTree × List Token). third_operand (read (names_in typedefs types u tokens) below) (expression_at u.forest left) x.0 x.1)) (got v tokens answer _ n next a e).0)
