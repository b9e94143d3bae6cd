-- What the functions that read answer.
use Rattle.std.proofs.Common.{◌≡◌, ◌≤◌, ◌<◌, ◌-◌, ℕ, zero, suc, List, [], length, drop, Option, Some, None, Result, refl, sym, ap, subst, ◌∙◌, arith, sub-one}
use Rattle.std.specs.Prelude.{IfOk}
use Rattle.std.proofs.lemmas.List.{get_or_push}
use Rattle.pv_token.specs.declared.token_table.Token.{Token}
use Rattle.pv_tree.specs.declared.nodes.Expr.{Expr}
use Rattle.pv_tree.specs.declared.nodes.Expr.TheVariants as expr
use Rattle.pv_tree.specs.declared.nodes.NodeId.{NodeId}
use Rattle.pv_tree.specs.declared.nodes.ListId.{ListId}
use Rattle.pv_tree.specs.Syntax.{ExpressionTree, Call, Tree, OfExpression}
use Rattle.pv_tree.specs.Nodes.{expression_of}
use Rattle.pv_tree.specs.Tables.{Tables, as_expression, expression_at, arguments_of, with_tree, with_list, is_expression, Is, Extends}
use Rattle.pv_tree.specs.Spells.{Names}
use Rattle.pv_tree.proofs.Kept.{tree_new, is_new, is_kept, tree_kept, extends_same, extends_tree, extends_list}
use Rattle.pv_expr_forms.specs.Reader.{Read, Reads, read, deeper, longer_tree, longest_tree}
use Rattle.pv_expr_forms.specs.Answers.{expression_and_rest, IsThere, Answers}
use Rattle.pv_expr_forms.proofs.Steps.{grown_stop}

-- ---- a unit that stays, or has one thing more

pub kept_same : (u v : Tables) → v ≡ u → Extends u v
kept_same u v e = rw e (extends_same u)

pub kept_tree : (u v : Tables) (t : Tree) → v ≡ with_tree u t → Extends u v
kept_tree u v t e = rw e (extends_tree u t)

pub kept_list : (u v : Tables) (l : List NodeId) → v ≡ with_list u l → Extends u v
kept_list u v l e = rw e (extends_list u l)

-- ---- a new expression

pub added : (u v : Tables) (tokens : List Token) (e : Expr) (line : ℕ) (n : NodeId) (next : ℕ) → v ≡ with_tree u (OfExpression (expression_of u.forest line e)) → n.0 ≡ length u.forest.trees → next ≤ length tokens → Answers v tokens (Some (n, next)) (Some (expression_of u.forest line e, drop next tokens))
added u v tokens e line n next made i p =
    let t = OfExpression (expression_of u.forest line e) in
    rw made (record { is = ap (λ (x : Tree). Some (as_expression x, drop next tokens)) (tree_new u t n i); there = (is_new u t is_expression n i refl, p) })

-- ---- a call, whose arguments were kept as a list

pub listed : (u v : Tables) (l : List NodeId) (i : ListId) (line : ℕ) (callee : NodeId) → v ≡ with_list u l → i.0 ≡ length u.forest.lists → expression_of v.forest line (expr.Call callee i) ≡ Call line (expression_at u.forest callee) (arguments_of u.forest l)
listed u v l i line callee made at =
    ap (λ (x : Tables). expression_of x.forest line (expr.Call callee i)) made
    ∙ ap (λ (ns : List NodeId). Call line (expression_at u.forest callee) (arguments_of u.forest ns)) (get_or_push u.forest.lists l [] i.0 (sym at))

-- the answer that one reading gives is the answer that an equal one gives
pub moved : {E : Type 0} (result : Result (Option (NodeId × ℕ)) E) (u : Tables) (tokens : List Token) (a b : Read) → a ≡ b → IfOk result (λ r. Answers u tokens r a) → IfOk result (λ r. Answers u tokens r b)
moved result u tokens a b e h = subst (λ (x : Read). IfOk result (λ r. Answers u tokens r x)) e h

pub got : (u : Tables) (tokens : List Token) (answer : Option (NodeId × ℕ)) (reading : Read) (n : NodeId) (next : ℕ) → Answers u tokens answer reading → answer ≡ Some (n, next) → (Some (expression_at u.forest n, drop next tokens) ≡ reading) × Is u is_expression n × (next ≤ length tokens)
got u tokens answer reading n next a e =
    let there : IsThere u tokens (Some (n, next)) = subst (IsThere u tokens) e a.there in
    (ap (expression_and_rest u.forest tokens) (sym e) ∙ a.is, there.0, there.1)

pub got_none : (u : Tables) (tokens : List Token) (answer : Option (NodeId × ℕ)) (reading : Read) → Answers u tokens answer reading → answer ≡ None → None ≡ reading
got_none u tokens answer reading a e = ap (expression_and_rest u.forest tokens) (sym e) ∙ a.is

-- no depth, no tree
pub read_none : (names : Names) (depth level : ℕ) (ts : List Token) → depth ≡ 0 → None ≡ read names depth level ts
unfolding read
read_none names depth level ts e = rw e refl

pub read_some : (names : Names) (depth level : ℕ) (ts : List Token) → 0 < depth → deeper names (read names (depth - 1)) (depth - 1) level ts ≡ read names depth level ts
unfolding read
read_some names zero level ts h = absurd (omega arith)
read_some names (suc below) level ts h = rw sub-one refl

-- ---- growth

module _ (names : Names) (read : Reads) (level below : ℕ) (u v : Tables) (tokens : List Token) (left : NodeId) (at : ℕ) (answer : Option (NodeId × ℕ)) (a : Answers v tokens answer (longer_tree names read level below (expression_at u.forest left) (drop at tokens))) where
  -- a tree that grew
  pub grew : (n : NodeId) (next : ℕ) → answer ≡ Some (n, next) → longer_tree names read level below (expression_at u.forest left) (drop at tokens) ≡ Some (expression_at v.forest n, drop next tokens)
  grew n next e = sym (got v tokens answer _ n next a e).0

  -- a tree that grew no more
  pub grew_out : (whole : ExpressionTree × List Token) → answer ≡ None → Extends u v → Is u is_expression left → at ≤ length tokens → longest_tree names read level below (expression_at u.forest left) (drop at tokens) ≡ whole → Answers v tokens (Some (left, at)) (Some whole)
  grew_out whole e k there place same =
      let stop = sym (got_none v tokens answer _ a e) in
      record {
        is = ap (λ (t : Tree). Some (as_expression t, drop at tokens)) (tree_kept u v left k there.0) ∙ ap (λ (x : ExpressionTree × List Token). Some x) (sym (grown_stop names read level below (expression_at u.forest left) (drop at tokens) stop) ∙ same);
        there = (is_kept u v is_expression left k there, place);
      }
