-- The arguments of a call, read one after another.
use Rattle.std.proofs.Common.{◌≡◌, ◌≤◌, length, drop, ℕ, zero, suc, Bool, true, false, cond, List, [], ◌∷◌, ◌++◌, All, Option, Some, None, option_map, refl, sym, ap, ◌∙◌, arith}
use Rattle.std.specs.List.{fold}
use Rattle.std.proofs.lemmas.List.{drop_all}
use Rattle.std.proofs.lemmas.List.Elements.{All-push}
use Rattle.pv_token.specs.declared.token_table.Token.{Token}
use Rattle.pv_tree.specs.declared.nodes.NodeId.{NodeId}
use Rattle.pv_tree.specs.Syntax.{ExpressionTree, ArgumentTrees, NoArguments, Argument, Call, Tree}
use Rattle.pv_tree.specs.Lines.{expression_line}
use Rattle.pv_tree.specs.Tables.{Tables, as_expression, expression_at, arguments_of, is_expression, Is, Extends}
use Rattle.pv_tree.specs.Spells.{Names}
use Rattle.pv_tree.proofs.Forming.{fold_push}
use Rattle.pv_tree.proofs.Kept.{tree_kept, is_kept}
use Rattle.pv_expr_forms.specs.Reader.{Reads, is_close, after, arguments, arguments_for, call_behind, head, deeper, read}
use Rattle.pv_expr_forms.proofs.Steps.{guarded, some_is}

-- ---- nodes as arguments

pub expression_kept : (u v : Tables) (n : NodeId) → Extends u v → Is u is_expression n → expression_at v.forest n ≡ expression_at u.forest n
expression_kept u v n e h = ap (λ (t : Tree). as_expression t) (tree_kept u v n e h.0)

fold_kept : (u v : Tables) (ns : List NodeId) (before : ArgumentTrees) → Extends u v → All (λ n. Is u is_expression n) ns → fold (λ b n. Argument b (expression_at v.forest n)) before ns ≡ fold (λ b n. Argument b (expression_at u.forest n)) before ns
fold_kept u v [] before e all = refl
fold_kept u v (n ∷ ns) before e all =
    ap (λ (a : ExpressionTree). fold (λ b m. Argument b (expression_at v.forest m)) (Argument before a) ns) (expression_kept u v n e (all 0 n (omega arith)))
    ∙ fold_kept u v ns (Argument before (expression_at u.forest n)) e (λ k d lt. all (suc k) d (omega (arith, lt)))

-- one argument more, in a unit that has grown
pub arguments_more : (u v : Tables) (ns : List NodeId) (n : NodeId) → Extends u v → All (λ m. Is u is_expression m) ns → arguments_of v.forest (ns ++ (n ∷ [])) ≡ Argument (arguments_of u.forest ns) (expression_at v.forest n)
arguments_more u v ns n e all =
    fold_push (λ (b : ArgumentTrees) (m : NodeId). Argument b (expression_at v.forest m)) NoArguments ns n
    ∙ ap (λ (b : ArgumentTrees). Argument b (expression_at v.forest n)) (fold_kept u v ns NoArguments e all)

pub all_more : (u v : Tables) (ns : List NodeId) (n : NodeId) → Extends u v → All (λ m. Is u is_expression m) ns → Is v is_expression n → All (λ m. Is v is_expression m) (ns ++ (n ∷ []))
all_more u v ns n e all there = All-push (λ m. Is v is_expression m) ns n (λ k d lt. is_kept u v is_expression _ e (all k d lt)) there

-- ---- no arguments

pub called_close : (r : Reads) (left : ExpressionTree) (ts rest : List Token) → after is_close ts ≡ Some rest → Some (Call (expression_line left) left NoArguments, rest) ≡ call_behind r left ts
unfolding call_behind
called_close r left [] rest e = absurd cc
called_close r left (t ∷ ts) rest e =
    let g = guarded (is_close t.kind) (Some ts) rest e in
    rw g.0 (ap (λ (y : List Token). Some (Call (expression_line left) left NoArguments, y)) (sym (some_is ts rest g.1)))

read_nothing : (names : Names) (below level : ℕ) → read names below level [] ≡ None
unfolding read deeper head
read_nothing names zero level = refl
read_nothing names (suc below) level = refl

-- where no token is left
pub read_end : (names : Names) (below level at : ℕ) (tokens : List Token) → length tokens ≤ at → None ≡ read names below level (drop at tokens)
read_end names below level at tokens h = rw (drop_all at tokens h) (sym (read_nothing names below level))

not_guarded : {A : Type 0} (b : Bool) (x : A) → cond b (Some x) None ≡ None → b ≡ false
not_guarded true x e = absurd cc
not_guarded false x e = refl

no_arguments : (names : Names) (below : ℕ) → None ≡ arguments (read names below) NoArguments []
unfolding arguments arguments_for
no_arguments names below = rw (read_nothing names below 2) refl

pub called_arguments : (names : Names) (below : ℕ) (left : ExpressionTree) (ts : List Token) (o : Option (ArgumentTrees × List Token)) → after is_close ts ≡ None → arguments (read names below) NoArguments ts ≡ o → option_map (λ x. (Call (expression_line left) left x.0, x.1)) o ≡ call_behind (read names below) left ts
unfolding call_behind
called_arguments names below left [] o e a = ap (option_map (λ (x : ArgumentTrees × List Token). let y : ExpressionTree × List Token = (Call (expression_line left) left x.0, x.1) in y)) (sym a ∙ sym (no_arguments names below))
called_arguments names below left (t ∷ ts) o e a =
    rw (not_guarded (is_close t.kind) ts e) (ap (option_map (λ (x : ArgumentTrees × List Token). let y : ExpressionTree × List Token = (Call (expression_line left) left x.0, x.1) in y)) (sym a))

-- ---- before the first argument

pub no_items : (u : Tables) (items : List NodeId) → items ≡ [] → All (λ n. Is u is_expression n) items
no_items u items e = rw e (λ k d lt. absurd (omega (arith, lt)))

pub start_with : (r : Reads) (u : Tables) (items : List NodeId) (ts : List Token) → items ≡ [] → arguments r (arguments_of u.forest items) ts ≡ arguments r NoArguments ts
start_with r u items ts e = ap (λ (ns : List NodeId). arguments r (arguments_of u.forest ns) ts) e
