-- Where type names that fit one way fit another, so do the expressions that they stand in.
use Rattle.std.proofs.Common.{◌≡◌, ◌≤◌, ◌+◌, ℕ, zero, suc, Bool, List, [], ◌∷◌, ◌++◌, length, drop, sym, ap, subst, ◌∙◌, arith}
use Rattle.pv_token.specs.declared.token_table.Token.{Token}
use Rattle.pv_token.specs.declared.token_table.TokenKind.{TokenKind}
use Rattle.pv_token.specs.declared.token_table.TokenKind.TheVariants as kind
use Rattle.pv_token.specs.declared.marks.Mark.TheVariants as mark
use Rattle.pv_tree.specs.Syntax.{ExpressionTree, Name, Number, Character, Text, Paren, Index, Call, Member, Arrow, PostIncrement, PostDecrement, PreIncrement, PreDecrement, Unary, SizeofExpr, SizeofType, Cast, Binary, Conditional, Assign, Comma, ArgumentTrees, NoArguments, Argument, DeclarationTree}
use Rattle.pv_tree.specs.Depths.{expression_depth, arguments_depth, declaration_depth}
use Rattle.pv_tree.specs.Spelling.{expression_tokens, arguments_tokens, before_argument, declaration_tokens}
use Rattle.pv_tree.specs.Grammar.{FitsBy, ArgumentsFitBy}
use Rattle.pv_expr_forms.proofs.Runs.{Takes, takes_parts, takes_rest, takes_behind, parts_at}

-- ---- tokens of these kinds stand here

abbrev pub Stand : List TokenKind → List Token → Type 0
Stand ks here = (rest : List Token) × Takes ks here rest

pub front : (ks ls : List TokenKind) (here : List Token) → Stand (ks ++ ls) here → Stand ks here
front ks ls here s = let p = takes_parts ks ls here s.0 s.1 in (p.0, p.1)

pub past_run : (ks ls : List TokenKind) (here : List Token) → Stand (ks ++ ls) here → Stand ls (drop (length ks) here)
past_run ks ls here s =
    let p = takes_parts ks ls here s.0 s.1 in
    (s.0, subst (λ (x : List Token). Takes ls x s.0) (sym (takes_rest ks here p.0 p.1)) p.2)

pub past_one : (k : TokenKind) (ls : List TokenKind) (here : List Token) → Stand (k ∷ ls) here → Stand ls (drop 1 here)
past_one k ls [] s = absurd s.1
past_one k ls (t ∷ ts) s = (s.0, s.1.1)

pub past_two : (k l : TokenKind) (ls : List TokenKind) (here : List Token) → Stand (k ∷ l ∷ ls) here → Stand ls (drop 2 here)
past_two k l ls [] s = absurd s.1
past_two k l ls (t ∷ []) s = absurd s.1.1
past_two k l ls (t ∷ u ∷ ts) s = (s.0, s.1.1.1)

-- behind kinds and one more
pub past_next : (ks : List TokenKind) (k : TokenKind) (ls : List TokenKind) (here : List Token) → Stand (ks ++ (k ∷ ls)) here
    → Stand ls (drop (length ks + 1) here)
past_next ks k ls here s =
    let p = parts_at ks k ls here s.0 s.1 in
    (s.0, subst (λ (x : List Token). Takes ls x s.0) (sym (takes_behind 1 ks here (p.token ∷ p.after) p.left)) p.right)

module _ (types : ℕ → Bool) (P Q : DeclarationTree → List Token → Type 0) (K : List Token → Type 0) (tail : (t : Token) (ts : List Token) → K (t ∷ ts) → K ts) (deep : ℕ)
    (change : (type : DeclarationTree) (o : Token) (ts : List Token) → K (o ∷ ts) → o.kind ≡ kind.Mark mark.OpenParen → Stand (declaration_tokens type ++ kind.Mark mark.CloseParen ∷ []) ts
    → suc (declaration_depth type) ≤ deep → P type ts → Q type ts) where
  known : (n : ℕ) (here : List Token) → K here → K (drop n here)
  known zero here k = k
  known (suc n) [] k = k
  known (suc n) (t ∷ ts) k = known n ts (tail t ts k)

  cast_changed : (type : DeclarationTree) (ks : List TokenKind) (here : List Token) → K here
      → Stand (kind.Mark mark.OpenParen ∷ ((declaration_tokens type ++ kind.Mark mark.CloseParen ∷ []) ++ ks)) here
      → suc (declaration_depth type) ≤ deep → P type (drop 1 here) → Q type (drop 1 here)
  cast_changed type ks [] k s d p = absurd s.1
  cast_changed type ks (o ∷ ts) k s d p = change type o ts k s.1.0 (front (declaration_tokens type ++ kind.Mark mark.CloseParen ∷ []) ks ts (s.0, s.1.1)) d p

  size_changed : (type : DeclarationTree) (w : TokenKind) (here : List Token) → K here
      → Stand (w ∷ kind.Mark mark.OpenParen ∷ (declaration_tokens type ++ kind.Mark mark.CloseParen ∷ [])) here
      → suc (declaration_depth type) ≤ deep → P type (drop 2 here) → Q type (drop 2 here)
  size_changed type w [] k s d p = absurd s.1
  size_changed type w (t ∷ []) k s d p = absurd s.1.1
  size_changed type w (t ∷ o ∷ ts) k s d p = change type o ts (tail t (o ∷ ts) k) s.1.1.0 (s.0, s.1.1.1) d p

  -- behind a type name in parentheses
  past_cast : (type : DeclarationTree) (ks : List TokenKind) (here : List Token)
      → Stand (kind.Mark mark.OpenParen ∷ ((declaration_tokens type ++ kind.Mark mark.CloseParen ∷ []) ++ ks)) here
      → Stand ks (drop (length (declaration_tokens type) + 2) here)
  past_cast type ks [] s = absurd s.1
  past_cast type ks (o ∷ ts) s =
      let p = takes_parts (declaration_tokens type ++ kind.Mark mark.CloseParen ∷ []) ks ts s.0 s.1.1 in
      let q = parts_at (declaration_tokens type) (kind.Mark mark.CloseParen) [] ts p.0 p.1 in
      let at : drop (length (declaration_tokens type) + 2) (o ∷ ts) ≡ p.0 =
      ap (λ (n : ℕ). drop n (o ∷ ts)) (let e : length (declaration_tokens type) + 2 ≡ suc (length (declaration_tokens type) + 1) = omega arith in e)
      ∙ takes_behind 1 (declaration_tokens type) ts (q.token ∷ q.after) q.left ∙ q.right in
      (s.0, subst (λ (x : List Token). Takes ks x s.0) (sym at) p.2)

  earlier : (before : ArgumentTrees) (here : List Token) → Stand (before_argument before (arguments_tokens before)) here
      → Stand (arguments_tokens before) here
  earlier NoArguments here s = s
  earlier (Argument others last) here s = front (arguments_tokens (Argument others last)) (kind.Mark mark.Comma ∷ []) here s

  mutual
    pub fits_changed : (a : ExpressionTree) (here : List Token) → K here → Stand (expression_tokens a) here → expression_depth a ≤ deep
        → FitsBy types P a here → FitsBy types Q a here
    fits_changed (Name line n) here k s d f = f
    fits_changed (Number line value decimal unsigned longs) here k s d f = f
    fits_changed (Character line value) here k s d f = f
    fits_changed (Text line first more) here k s d f = f
    fits_changed (Paren line a) here k s d f =
        (f.0, f.1, fits_changed a (drop 1 here) (known 1 here k) (front (expression_tokens a) _ (drop 1 here) (past_one _ _ here s)) (omega (arith, d)) f.2)
    fits_changed (Index line a i) here k s d f =
        let n = length (expression_tokens a) + 1 in (
          f.0,
          f.1,
          f.2,
          fits_changed a here k (front (expression_tokens a) _ here s) (omega (arith, d)) f.3,
          fits_changed i (drop n here) (known n here k) (front (expression_tokens i) _ (drop n here) (past_next (expression_tokens a) _ _ here s)) (omega (arith, d)) f.4,
        )
    fits_changed (Call line callee arguments) here k s d f =
        let n = length (expression_tokens callee) + 1 in (
          f.0,
          f.1,
          fits_changed callee here k (front (expression_tokens callee) _ here s) (omega (arith, d)) f.2,
          arguments_changed arguments (drop n here) (known n here k) (front (arguments_tokens arguments) _ (drop n here) (past_next (expression_tokens callee) _ _ here s)) (omega (arith, d)) f.3,
        )
    fits_changed (Member line a n) here k s d f = (f.0, f.1, f.2, fits_changed a here k (front (expression_tokens a) _ here s) (omega (arith, d)) f.3)
    fits_changed (Arrow line a n) here k s d f = (f.0, f.1, f.2, fits_changed a here k (front (expression_tokens a) _ here s) (omega (arith, d)) f.3)
    fits_changed (PostIncrement line a) here k s d f = (f.0, f.1, fits_changed a here k (front (expression_tokens a) _ here s) (omega (arith, d)) f.2)
    fits_changed (PostDecrement line a) here k s d f = (f.0, f.1, fits_changed a here k (front (expression_tokens a) _ here s) (omega (arith, d)) f.2)
    fits_changed (PreIncrement line a) here k s d f = (f.0, f.1, fits_changed a (drop 1 here) (known 1 here k) (past_one _ _ here s) (omega (arith, d)) f.2)
    fits_changed (PreDecrement line a) here k s d f = (f.0, f.1, fits_changed a (drop 1 here) (known 1 here k) (past_one _ _ here s) (omega (arith, d)) f.2)
    fits_changed (Unary line op a) here k s d f = (f.0, f.1, fits_changed a (drop 1 here) (known 1 here k) (past_one _ _ here s) (omega (arith, d)) f.2)
    fits_changed (SizeofExpr line a) here k s d f = (f.0, f.1, fits_changed a (drop 1 here) (known 1 here k) (past_one _ _ here s) (omega (arith, d)) f.2)
    fits_changed (SizeofType line type) here k s d f = (f.0, size_changed type _ here k s d f.1)
    fits_changed (Cast line type a) here k s d f =
        let n = length (declaration_tokens type) + 2 in (
          f.0,
          cast_changed type (expression_tokens a) here k s (omega (arith, d)) f.1,
          f.2,
          fits_changed a (drop n here) (known n here k) (past_cast type (expression_tokens a) here s) (omega (arith, d)) f.3,
        )
    fits_changed (Binary line op a b) here k s d f =
        let n = length (expression_tokens a) + 1 in (
          f.0,
          f.1,
          f.2,
          fits_changed a here k (front (expression_tokens a) _ here s) (omega (arith, d)) f.3,
          fits_changed b (drop n here) (known n here k) (past_next (expression_tokens a) _ _ here s) (omega (arith, d)) f.4,
        )
    fits_changed (Conditional line a b c) here k s d f =
        let n = length (expression_tokens a) + 1 in
        let m = length (expression_tokens b) + 1 in
        let t = past_next (expression_tokens a) _ _ here s in (
          f.0,
          f.1,
          f.2,
          f.3,
          fits_changed a here k (front (expression_tokens a) _ here s) (omega (arith, d)) f.4,
          fits_changed b (drop n here) (known n here k) (front (expression_tokens b) _ (drop n here) t) (omega (arith, d)) f.5,
          fits_changed c (drop m (drop n here)) (known m (drop n here) (known n here k)) (past_next (expression_tokens b) _ _ (drop n here) t) (omega (arith, d)) f.6,
        )
    fits_changed (Assign line op a b) here k s d f =
        let n = length (expression_tokens a) + 1 in (
          f.0,
          f.1,
          f.2,
          fits_changed a here k (front (expression_tokens a) _ here s) (omega (arith, d)) f.3,
          fits_changed b (drop n here) (known n here k) (past_next (expression_tokens a) _ _ here s) (omega (arith, d)) f.4,
        )
    fits_changed (Comma line a b) here k s d f =
        let n = length (expression_tokens a) + 1 in (
          f.0,
          f.1,
          f.2,
          fits_changed a here k (front (expression_tokens a) _ here s) (omega (arith, d)) f.3,
          fits_changed b (drop n here) (known n here k) (past_next (expression_tokens a) _ _ here s) (omega (arith, d)) f.4,
        )

    arguments_changed : (arguments : ArgumentTrees) (here : List Token) → K here → Stand (arguments_tokens arguments) here
        → arguments_depth arguments ≤ deep
        → ArgumentsFitBy types P arguments here → ArgumentsFitBy types Q arguments here
    arguments_changed NoArguments here k s d f = tt
    arguments_changed (Argument before last) here k s d f =
        let ks = before_argument before (arguments_tokens before) in (
          arguments_changed before here k (earlier before here (front ks (expression_tokens last) here s)) (omega (arith, d)) f.0,
          f.1,
          fits_changed last (drop (length ks) here) (known (length ks) here k) (past_run ks (expression_tokens last) here s) (omega (arith, d)) f.2,
        )
