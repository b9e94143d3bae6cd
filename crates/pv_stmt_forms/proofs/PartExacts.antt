-- What is spelled as a part of a statement is read: expressions, conditions, and parts that may be left out.
use Rattle.std.proofs.Common.{◌≡◌, ◌≤◌, ℕ, Bool, true, false, List, [], ◌∷◌, ◌++◌, drop, Some, refl, ap, ◌∙◌, arith}
use Rattle.pv_token.specs.declared.token_table.Token.{Token}
use Rattle.pv_token.specs.declared.token_table.TokenKind.{TokenKind}
use Rattle.pv_token.specs.declared.token_table.TokenKind.TheVariants as kind
use Rattle.pv_token.specs.declared.marks.Mark.TheVariants as mark
use Rattle.pv_tree.specs.Syntax.{ExpressionTree, OfExpression, OptionalTree, Absent, Present}
use Rattle.pv_tree.specs.Depths.{expression_depth, optional_depth}
use Rattle.pv_tree.specs.Levels.{rank}
use Rattle.pv_tree.specs.Spelling.{in_parens, expression_tokens, optional_tokens}
use Rattle.pv_tree.specs.Spells.{Names, Fits}
use Rattle.pv_tree.specs.Places.{Expressions}
use Rattle.pv_tree.specs.Fitting.{OptionalFits, past}
use Rattle.pv_expr_forms.specs.Reader.{is_open, is_close}
use Rattle.pv_expr_forms.proofs.Runs.{Takes, takes_parts, takes_rest, parts_at}
use Rattle.pv_expr_forms.proofs.Heads.{IsSpelled}
use Rattle.pv_expr_forms.proofs.Ends.{goes_level, Stops as Ends, stops_at}
use Rattle.pv_expr_forms.proofs.Wholes.{exact_by}
use Rattle.pv_expr_forms.proofs.Whole.{whole}
use Rattle.pv_decl_forms.proofs.Marks.{after_taken}
use Rattle.pv_decl_forms.proofs.Goods.{known_behind}
use Rattle.pv_stmt_forms.specs.Statements.{expression, before, condition, optional_before, expression_before}
use Rattle.pv_stmt_forms.proofs.FormStarts.{begins_form, read_none, rank_pos}

-- an expression of a level that nothing goes on from
pub expression_exact : (names : Names) (depth level : ℕ) (a : ExpressionTree) (here rest : List Token) → level ≤ rank a → Fits names a here
    → expression_depth a ≤ depth → Takes (expression_tokens a) here rest → Ends level rest
    → expression names depth level here ≡ Some (OfExpression a, rest)
expression_exact names depth level a here rest l f d h s =
    let e = exact_by names a here rest (whole names a here f rest h) depth level l d s in
    rw e refl

-- an expression in parentheses
condition_at : (names : Names) (depth : ℕ) (a : ExpressionTree) (here rest : List Token) → Fits names a (drop 1 here) → expression_depth a ≤ depth
    → Takes (in_parens (expression_tokens a)) here rest → condition names depth here ≡ Some (OfExpression a, rest)
unfolding condition before
condition_at names depth a [] rest f d h = absurd h
condition_at names depth a (t ∷ ts) rest f d h =
    let p = parts_at (expression_tokens a) (kind.Mark mark.CloseParen) [] ts rest h.1 in
    let o = after_taken is_open (kind.Mark mark.OpenParen) (t ∷ ts) ts refl (h.0, refl) in
    let e = exact_by names a ts (p.token ∷ p.after) (whole names a ts f (p.token ∷ p.after) p.left) depth 1 (rank_pos a) d (stops_at (kind.Mark mark.CloseParen) 1 p.token p.after p.kind (omega arith)) in
    let c = after_taken is_close (kind.Mark mark.CloseParen) (p.token ∷ p.after) rest refl (p.kind, p.right) in
    rw (o, e, c) refl

-- an expression in parentheses, and kinds
pub record Governs (names : Names) (K : List Token → Type 0) (depth : ℕ) (a : ExpressionTree) (ks : List TokenKind) (here rest : List Token) : Type 0 where
  pub inner : List Token
  pub is : condition names depth here ≡ Some (OfExpression a, inner)
  pub takes : Takes ks inner rest
  pub at : drop 1 (past (expression_tokens a) (drop 1 here)) ≡ inner
  pub known : K inner

inner_at : (a : ExpressionTree) (here rest : List Token) → Takes (in_parens (expression_tokens a)) here rest
    → drop 1 (past (expression_tokens a) (drop 1 here)) ≡ rest
inner_at a [] rest h = absurd h
inner_at a (t ∷ ts) rest h =
    let p = takes_parts (expression_tokens a) (kind.Mark mark.CloseParen ∷ []) ts rest h.1 in
    ap (drop 1) (takes_rest (expression_tokens a) ts p.0 p.1) ∙ takes_rest (kind.Mark mark.CloseParen ∷ []) p.0 rest p.2

pub governs : (names : Names) (K : List Token → Type 0) → IsSpelled names K → (depth : ℕ) (a : ExpressionTree) (ks : List TokenKind) (here rest : List Token)
    → K here → Fits names a (drop 1 here) → expression_depth a ≤ depth → Takes (in_parens (expression_tokens a) ++ ks) here rest
    → Governs names K depth a ks here rest
governs names K spelled depth a ks here rest known f d h =
    let p = takes_parts (in_parens (expression_tokens a)) ks here rest h in
    record {
      inner = p.0;
      is = condition_at names depth a here p.0 f d p.1;
      takes = p.2;
      at = inner_at a here p.0 p.1;
      known = known_behind names K spelled (in_parens (expression_tokens a)) here p.0 p.1 known;
    }

-- an expression that may be left out, and a token that no expression begins with
pub part_exact : (names : Names) (depth : ℕ) (test : TokenKind → Bool) (k : TokenKind) → test k ≡ true → begins_form k ≡ true → goes_level k ≤ 1
    → (o : OptionalTree) (here rest : List Token)
    → OptionalFits names.is_type (Fits names) Expressions o here → optional_depth o ≤ depth → Takes (optional_tokens o ++ k ∷ []) here rest
    → expression_before names depth test here ≡ Some (o, rest)
unfolding expression_before optional_before
part_exact names depth test k is none low Absent [] rest f d h = absurd h
part_exact names depth test k is none low Absent (t ∷ ts) rest f d h =
    let e = read_none names depth 1 t ts (ap begins_form h.0 ∙ none) in
    let c = after_taken test k (t ∷ ts) rest is h in
    rw (e, c) refl
part_exact names depth test k is none low (Present (OfExpression a)) here rest f d h =
    let p = parts_at (expression_tokens a) k [] here rest h in
    let e = exact_by names a here (p.token ∷ p.after) (whole names a here f.1 (p.token ∷ p.after) p.left) depth 1 (rank_pos a) d (stops_at k 1 p.token p.after p.kind low) in
    let c = after_taken test k (p.token ∷ p.after) rest is (p.kind, p.right) in
    rw (e, c) refl
part_exact names depth test k is none low (Present _) here rest f d h = absurd (let e : false ≡ true = f.0 in cc)
