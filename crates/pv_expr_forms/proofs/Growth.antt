-- What an expression goes on to is spelled so.
use Rattle.std.proofs.Common.{◌≡◌, ◌≤◌, ◌<◌, ◌⊎◌, ℕ, zero, suc, Bool, true, false, cond, List, [], ◌∷◌, ◌++◌, length, drop, Option, Some, None, option_map, refl, sym, ap, subst, ◌∙◌, arith, leb, inl, inr}
use Rattle.std.proofs.lemmas.Bool.{leb-true, and_parts}
use Rattle.pv_token.specs.declared.token_table.Token.{Token}
use Rattle.pv_token.specs.declared.token_table.TokenKind.{TokenKind}
use Rattle.pv_token.specs.declared.token_table.TokenKind.TheVariants as kind
use Rattle.pv_token.specs.declared.marks.Mark.TheVariants as mark
use Rattle.pv_tree.specs.Syntax.{ExpressionTree, Index, Call, Member, Arrow, PostIncrement, PostDecrement, Conditional, ArgumentTrees, NoArguments, Argument}
use Rattle.pv_tree.specs.Depths.{expression_depth, arguments_depth}
use Rattle.pv_tree.specs.Lines.{expression_line}
use Rattle.pv_tree.specs.Levels.{rank}
use Rattle.pv_tree.specs.Spelling.{expression_tokens, arguments_tokens, before_argument}
use Rattle.pv_tree.specs.Grammar.{behind}
use Rattle.pv_tree.specs.Spells.{Names, Fits, FitsArguments}
use Rattle.pv_expr_forms.specs.declared.follows.Join.{Join}
use Rattle.pv_expr_forms.specs.declared.follows.Follow.{Follow}
use Rattle.pv_expr_forms.specs.declared.follows.Follow.TheVariants as follow
use Rattle.pv_expr_forms.specs.Follows.{join_mark, join_right, join_tree, follow_of, follow_mark, follow_rank, follow_left}
use Rattle.pv_expr_forms.specs.Reader.{Read, Reads, is_close, is_comma, is_bracket, is_colon, after, index_end, third_operand, more_arguments, arguments_for, arguments, call_behind, selection_behind, goes_on, tree_on, longer_tree, on_with_tree, grown_for, longest_tree}
use Rattle.pv_expr_forms.proofs.Runs.{Takes, takes_then, takes_rest, takes_behind, takes_next, takes_length, takes_known}
use Rattle.pv_expr_forms.proofs.Operators.{follow_of_is}
use Rattle.pv_expr_forms.proofs.Steps.{guarded, mapped, followed, some_is, depth_joined, selected_by_is}
use Rattle.pv_expr_forms.proofs.Marks.{close_is, comma_is, after_bracket, after_colon}
use Rattle.pv_expr_forms.proofs.Trees.{line_is, tokens_joined, rank_joined, fits_joined}
use Rattle.pv_expr_forms.proofs.Heads.{IsSpelled, IsSound}

-- arguments that fit, and spell what was taken with the parenthesis that closes
pub record Given (names : Names) (below : ℕ) (here : List Token) (args : ArgumentTrees) (rest : List Token) : Type 0 where
  pub fits : FitsArguments names args here
  pub shallow : arguments_depth args ≤ below
  pub takes : Takes (arguments_tokens args ++ kind.Mark mark.CloseParen ∷ []) here rest

-- a fits where left does, and takes more
pub record Longer (names : Names) (level deep : ℕ) (here ts : List Token) (a : ExpressionTree) (rest : List Token) : Type 0 where
  pub fits : Fits names a here
  pub tight : level ≤ rank a
  pub shallow : expression_depth a ≤ deep
  pub takes : Takes (expression_tokens a) here rest
  pub shorter : length rest < length ts

-- the same, or a is left
pub record Grown (names : Names) (level deep : ℕ) (here : List Token) (left : ExpressionTree) (ts : List Token) (a : ExpressionTree) (rest : List Token) : Type 0 where
  pub fits : Fits names a here
  pub tight : level ≤ rank a
  pub shallow : expression_depth a ≤ deep
  pub takes : Takes (expression_tokens a) here rest
  pub shorter : (length rest < length ts) ⊎ (◌≡◌ {A = ExpressionTree × List Token} (a, rest) (left, ts))

longer_at : (names : Names) (level deep : ℕ) (here ts : List Token) (x : ExpressionTree × List Token) (a : ExpressionTree) (rest : List Token) → x ≡ (a, rest)
    → Longer names level deep here ts x.0 x.1 → Longer names level deep here ts a rest
longer_at names level deep here ts x a rest e g = subst (λ (y : ExpressionTree × List Token). Longer names level deep here ts y.0 y.1) e g

still_shorter : (n : ℕ) (a : ExpressionTree) (ts : List Token) (b : ExpressionTree) (rest : List Token) → length ts < n
    → (length rest < length ts) ⊎ (◌≡◌ {A = ExpressionTree × List Token} (b, rest) (a, ts)) → length rest < n
still_shorter n a ts b rest h (inl k) = omega arith
still_shorter n a ts b rest h (inr e) = let same : length rest ≡ length ts = ap (λ (x : ExpressionTree × List Token). length x.1) e in omega arith

selected_takes : (names : Names) (make : ℕ → ExpressionTree) (ts : List Token) (a : ExpressionTree) (rest : List Token) → selection_behind names make ts ≡ Some (a, rest)
    → (n : ℕ) × Takes (kind.Name n ∷ []) ts rest × (names.is_type n ≡ false) × (make n ≡ a)
unfolding selection_behind
selected_takes names make [] a rest e = absurd cc
selected_takes names make (t ∷ ts) a rest e =
    let m = selected_by_is names make t.kind ts a rest e in
    (m.name, (m.kind_is, m.rest_is), m.free, m.is)

module _ (names : Names) (K : List Token → Type 0) (spelled : IsSpelled names K) (below : ℕ) (r : Reads) (s : IsSound names K below r) where
  known_behind : (ks : List TokenKind) (here rest : List Token) → Takes ks here rest → K here → K rest
  known_behind ks here rest h known = takes_known K spelled.tail ks here rest h known

  -- ---- arguments

  abbrev Goes : (ArgumentTrees → List Token → Option (ArgumentTrees × List Token)) → Type 0
  Goes go = (before : ArgumentTrees) (here ts : List Token) → K ts → FitsArguments names before here → arguments_depth before ≤ below → Takes (before_argument before (arguments_tokens before)) here ts → (args : ArgumentTrees) (rest : List Token) → go before ts ≡ Some (args, rest) → Given names below here args rest

  further_by : (go : ArgumentTrees → List Token → Option (ArgumentTrees × List Token)) → Goes go
      → (comma close : Bool) (before : ArgumentTrees) (last : ExpressionTree) (here : List Token) (t : Token) (ts : List Token) (args : ArgumentTrees) (rest : List Token)
      → K ts → FitsArguments names (Argument before last) here → arguments_depth (Argument before last) ≤ below
      → Takes (arguments_tokens (Argument before last)) here (t ∷ ts) → is_comma t.kind ≡ comma → is_close t.kind ≡ close
      → cond comma (go (Argument before last) ts) (cond close (Some (Argument before last, ts)) None) ≡ Some (args, rest) → Given names below here args rest
  further_by go goes true close before last here t ts args rest known f d h p q e =
      goes (Argument before last) here ts known f d (takes_then (arguments_tokens (Argument before last)) (kind.Mark mark.Comma ∷ []) here (t ∷ ts) ts h (comma_is t.kind p, refl)) args rest e
  further_by go goes false true before last here t ts args rest known f d h p q e =
      let same : ◌≡◌ {A = ArgumentTrees × List Token} (Argument before last, ts) (args, rest) = some_is _ _ e in
      subst (λ (y : ArgumentTrees × List Token). Given names below here y.0 y.1) same (record {
        fits = f;
        shallow = d;
        takes = takes_then (arguments_tokens (Argument before last)) (kind.Mark mark.CloseParen ∷ []) here (t ∷ ts) ts h (close_is t.kind q, refl);
      })
  further_by go goes false false before last here t ts args rest known f d h p q e = absurd cc

  further_good : (go : ArgumentTrees → List Token → Option (ArgumentTrees × List Token)) → Goes go
      → (before : ArgumentTrees) (last : ExpressionTree) (here ts : List Token) (args : ArgumentTrees) (rest : List Token) → K ts
      → FitsArguments names (Argument before last) here → arguments_depth (Argument before last) ≤ below → Takes (arguments_tokens (Argument before last)) here ts
      → more_arguments go (Argument before last) ts ≡ Some (args, rest) → Given names below here args rest
  unfolding more_arguments
  further_good go goes before last here [] args rest known f d h e = absurd cc
  further_good go goes before last here (t ∷ ts) args rest known f d h e =
      further_by go goes (is_comma t.kind) (is_close t.kind) before last here t ts args rest (spelled.tail t ts known) f d h refl refl e

  arguments_for_good : (steps : ℕ) → Goes (arguments_for steps r)
  unfolding arguments_for
  arguments_for_good zero before here ts known f d h args rest e = absurd cc
  arguments_for_good (suc steps) before here ts known f d h args rest e =
      let x = followed (λ (x : ExpressionTree × List Token). more_arguments (arguments_for steps r) (Argument before x.0) x.1) (r 2 ts) (args, rest) e in
      let a = s.good 2 ts x.0.0 x.0.1 known x.1 in
      let place : drop (length (before_argument before (arguments_tokens before))) here ≡ ts = takes_rest (before_argument before (arguments_tokens before)) here ts h in
      further_good (arguments_for steps r) (arguments_for_good steps) before x.0.0 here x.0.1 args rest
      (known_behind (expression_tokens x.0.0) ts x.0.1 a.takes known)
      (f, a.tight, subst (λ (y : List Token). Fits names x.0.0 y) (sym place) a.fits)
      (omega (arith, d, a.shallow))
      (takes_then (before_argument before (arguments_tokens before)) (expression_tokens x.0.0) here ts x.0.1 h a.takes) x.2

  arguments_good : (ts : List Token) → K ts → (args : ArgumentTrees) (rest : List Token) → arguments r NoArguments ts ≡ Some (args, rest) → Given names below ts args rest
  unfolding arguments
  arguments_good ts known args rest e = arguments_for_good (suc (length ts)) NoArguments ts ts known tt (omega arith) refl args rest e

  called_by : (close : Bool) (left : ExpressionTree) (t : Token) (ts : List Token) (a : ExpressionTree) (rest : List Token) → K (t ∷ ts) → is_close t.kind ≡ close
      → cond {A = Read} close (Some (Call (expression_line left) left NoArguments, ts)) (option_map (λ x. (Call (expression_line left) left x.0, x.1)) (arguments r NoArguments (t ∷ ts))) ≡ Some (a, rest)
      → (args : ArgumentTrees) × Given names below (t ∷ ts) args rest × (Call (expression_line left) left args ≡ a)
  called_by true left t ts a rest known c e =
      let same : ◌≡◌ {A = ExpressionTree × List Token} (Call (expression_line left) left NoArguments, ts) (a, rest) = some_is _ _ e in
      (NoArguments, record { fits = tt; shallow = omega arith; takes = (close_is t.kind c, ap (λ (x : ExpressionTree × List Token). x.1) same) }, ap (λ (x : ExpressionTree × List Token). x.0) same)
  called_by false left t ts a rest known c e =
      let m = mapped (λ (x : ArgumentTrees × List Token). let y : ExpressionTree × List Token = (Call (expression_line left) left x.0, x.1) in y) (arguments r NoArguments (t ∷ ts)) (a, rest) e in
      let g = arguments_good (t ∷ ts) known m.0.0 m.0.1 m.1 in
      (m.0.0, subst (λ (x : List Token). Given names below (t ∷ ts) m.0.0 x) (ap (λ (x : ExpressionTree × List Token). x.1) m.2) g, ap (λ (x : ExpressionTree × List Token). x.0) m.2)

  called_good : (left : ExpressionTree) (ts : List Token) → K ts → (a : ExpressionTree) (rest : List Token) → call_behind r left ts ≡ Some (a, rest)
      → (args : ArgumentTrees) × Given names below ts args rest × (Call (expression_line left) left args ≡ a)
  unfolding call_behind
  called_good left [] known a rest e = absurd cc
  called_good left (t ∷ ts) known a rest e = called_by (is_close t.kind) left t ts a rest known refl e

  -- ---- one form that goes on

  module _ (level : ℕ) (here : List Token) (left : ExpressionTree) (t : Token) (ts : List Token) (known : K ts) (f : Fits names left here) (d : expression_depth left ≤ below) (h : Takes (expression_tokens left) here (t ∷ ts)) where
    place : behind left 1 here ≡ ts
    place = takes_behind 1 (expression_tokens left) here (t ∷ ts) h

    abbrev Went : ExpressionTree → List Token → Type 0
    Went a rest = Longer names level (suc below) here (t ∷ ts) a rest

    join_good : (op : Join) (a : ExpressionTree) (rest : List Token) → t.kind ≡ kind.Mark (follow_mark (follow.Join op)) → level ≤ follow_rank (follow.Join op)
        → follow_left (follow.Join op) ≤ rank left → goes_on names r left (follow.Join op) ts ≡ Some (a, rest) → Went a rest
    unfolding goes_on
    join_good op a rest o l k e =
        let m = mapped _ (r (join_right op) ts) (a, rest) e in
        let b = s.good (join_right op) ts m.0.0 m.0.1 known m.1 in
        longer_at names level (suc below) here (t ∷ ts) (join_tree op left m.0.0, m.0.1) a rest m.2 (record {
          fits = fits_joined names op left m.0.0 here k b.tight f (subst (λ (x : List Token). Fits names m.0.0 x) (sym place) b.fits);
          tight = omega (arith, rank_joined op left m.0.0, l);
          shallow = omega (arith, depth_joined op left m.0.0, b.shallow, d);
          takes = subst (λ (ks : List TokenKind). Takes ks here m.0.1) (sym (tokens_joined op left m.0.0)) (takes_then (expression_tokens left) (kind.Mark (join_mark op) ∷ expression_tokens m.0.0) here (t ∷ ts) m.0.1 h (o, b.takes));
          shorter = omega (arith, takes_length (expression_tokens m.0.0) ts m.0.1 b.takes);
        })

    ask_good : (a : ExpressionTree) (rest : List Token) → t.kind ≡ kind.Mark mark.Question → level ≤ 3 → 4 ≤ rank left
        → goes_on names r left follow.Ask ts ≡ Some (a, rest) → Went a rest
    unfolding goes_on third_operand
    ask_good a rest o l k e =
        let m = followed (λ (x : ExpressionTree × List Token). third_operand r left x.0 x.1) (r 1 ts) (a, rest) e in
        let n = followed (λ (y : List Token). option_map (λ x. (Conditional (expression_line left) left m.0.0 x.0, x.1)) (r 3 y)) (after is_colon m.0.1) (a, rest) m.2 in
        let w = mapped _ (r 3 n.0) (a, rest) n.2 in
        let b = s.good 1 ts m.0.0 m.0.1 known m.1 in
        let colon = after_colon m.0.1 n.0 n.1 in
        let known' = known_behind (kind.Mark mark.Colon ∷ []) m.0.1 n.0 colon (known_behind (expression_tokens m.0.0) ts m.0.1 b.takes known) in
        let c = s.good 3 n.0 w.0.0 w.0.1 known' w.1 in
        let place' : behind m.0.0 1 (behind left 1 here) ≡ n.0 = ap (λ (x : List Token). behind m.0.0 1 x) place ∙ takes_next (expression_tokens m.0.0) (kind.Mark mark.Colon) ts m.0.1 n.0 b.takes colon in
        let last = takes_then (kind.Mark mark.Colon ∷ []) (expression_tokens w.0.0) m.0.1 n.0 w.0.1 colon c.takes in
        let inner = takes_then (expression_tokens m.0.0) (kind.Mark mark.Colon ∷ expression_tokens w.0.0) ts m.0.1 w.0.1 b.takes last in
        longer_at names level (suc below) here (t ∷ ts) (Conditional (expression_line left) left m.0.0 w.0.0, w.0.1) a rest w.2 (record {
          fits = (line_is names left here f, k, b.tight, c.tight, f, subst (λ (x : List Token). Fits names m.0.0 x) (sym place) b.fits, subst (λ (x : List Token). Fits names w.0.0 x) (sym place') c.fits);
          tight = l;
          shallow = omega (arith, b.shallow, c.shallow, d);
          takes = takes_then (expression_tokens left) (kind.Mark mark.Question ∷ (expression_tokens m.0.0 ++ (kind.Mark mark.Colon ∷ expression_tokens w.0.0))) here (t ∷ ts) w.0.1 h (o, inner);
          shorter = omega (arith, takes_length (expression_tokens m.0.0 ++ (kind.Mark mark.Colon ∷ expression_tokens w.0.0)) ts w.0.1 inner);
        })

    index_good : (a : ExpressionTree) (rest : List Token) → t.kind ≡ kind.Mark mark.OpenBracket → level ≤ 16 → 16 ≤ rank left → goes_on names r left follow.Index ts ≡ Some (a, rest) → Went a rest
    unfolding goes_on index_end
    index_good a rest o l k e =
        let m = followed (λ (x : ExpressionTree × List Token). index_end left x.0 x.1) (r 1 ts) (a, rest) e in
        let n = mapped _ (after is_bracket m.0.1) (a, rest) m.2 in
        let i = s.good 1 ts m.0.0 m.0.1 known m.1 in
        let inner = takes_then (expression_tokens m.0.0) (kind.Mark mark.CloseBracket ∷ []) ts m.0.1 n.0 i.takes (after_bracket m.0.1 n.0 n.1) in
        longer_at names level (suc below) here (t ∷ ts) (Index (expression_line left) left m.0.0, n.0) a rest n.2 (record {
          fits = (line_is names left here f, k, i.tight, f, subst (λ (x : List Token). Fits names m.0.0 x) (sym place) i.fits);
          tight = l;
          shallow = omega (arith, i.shallow, d);
          takes = takes_then (expression_tokens left) (kind.Mark mark.OpenBracket ∷ (expression_tokens m.0.0 ++ kind.Mark mark.CloseBracket ∷ [])) here (t ∷ ts) n.0 h (o, inner);
          shorter = omega (arith, takes_length (expression_tokens m.0.0 ++ kind.Mark mark.CloseBracket ∷ []) ts n.0 inner);
        })

    call_good : (a : ExpressionTree) (rest : List Token) → t.kind ≡ kind.Mark mark.OpenParen → level ≤ 16 → 16 ≤ rank left
        → goes_on names r left follow.Call ts ≡ Some (a, rest) → Went a rest
    unfolding goes_on
    call_good a rest o l k e =
        let c = called_good left ts known a rest e in
        let args = c.0 in
        let g = c.1 in
        subst (λ (x : ExpressionTree). Went x rest) c.2 (record {
          fits = (line_is names left here f, k, f, subst (λ (x : List Token). FitsArguments names args x) (sym place) g.fits);
          tight = l;
          shallow = omega (arith, g.shallow, d);
          takes = takes_then (expression_tokens left) (kind.Mark mark.OpenParen ∷ (arguments_tokens args ++ kind.Mark mark.CloseParen ∷ [])) here (t ∷ ts) rest h (o, g.takes);
          shorter = omega (arith, takes_length (arguments_tokens args ++ kind.Mark mark.CloseParen ∷ []) ts rest g.takes);
        })

    -- a name behind `.` or `->`
    member_good : (op : TokenKind) (make : ℕ → ExpressionTree) (a : ExpressionTree) (rest : List Token) → ((n : ℕ) → names.is_type n ≡ false → Fits names (make n) here)
        → ((n : ℕ) → level ≤ rank (make n)) → ((n : ℕ) → expression_depth (make n) ≡ suc (expression_depth left))
        → ((n : ℕ) → expression_tokens (make n) ≡ expression_tokens left ++ (op ∷ kind.Name n ∷ [])) → t.kind ≡ op → selection_behind names make ts ≡ Some (a, rest) → Went a rest
    member_good op make a rest fits tight deep spell o e =
        let m = selected_takes names make ts a rest e in
        let n = m.0 in
        subst (λ (x : ExpressionTree). Went x rest) m.3 (record {
          fits = fits n m.2;
          tight = tight n;
          shallow = omega (arith, deep n, d);
          takes = subst (λ (ks : List TokenKind). Takes ks here rest) (sym (spell n)) (takes_then (expression_tokens left) (op ∷ kind.Name n ∷ []) here (t ∷ ts) rest h (o, m.1));
          shorter = omega (arith, takes_length (kind.Name n ∷ []) ts rest m.1);
        })

    step_good : (op : TokenKind) (b a : ExpressionTree) (rest : List Token) → Fits names b here → level ≤ rank b → expression_depth b ≡ suc (expression_depth left)
        → expression_tokens b ≡ expression_tokens left ++ (op ∷ []) → t.kind ≡ op → ◌≡◌ {A = Read} (Some (b, ts)) (Some (a, rest)) → Went a rest
    step_good op b a rest fits tight deep spell o e =
        longer_at names level (suc below) here (t ∷ ts) (b, ts) a rest (some_is _ _ e) (record {
          fits = fits;
          tight = tight;
          shallow = omega (arith, deep, d);
          takes = subst (λ (ks : List TokenKind). Takes ks here ts) (sym spell) (takes_then (expression_tokens left) (op ∷ []) here (t ∷ ts) ts h (o, refl));
          shorter = omega arith;
        })

    -- each way to go on
    goes_good : (w : Follow) (a : ExpressionTree) (rest : List Token) → t.kind ≡ kind.Mark (follow_mark w) → level ≤ follow_rank w → follow_left w ≤ rank left
        → goes_on names r left w ts ≡ Some (a, rest) → Went a rest
    unfolding goes_on
    goes_good (follow.Join op) a rest o l k e = join_good op a rest o l k e
    goes_good follow.Ask a rest o l k e = ask_good a rest o l k e
    goes_good follow.Index a rest o l k e = index_good a rest o l k e
    goes_good follow.Call a rest o l k e = call_good a rest o l k e
    goes_good follow.Dot a rest o l k e =
        member_good (kind.Mark mark.Dot) (Member (expression_line left) left) a rest (λ n free. (line_is names left here f, k, free, f)) (λ n. l) (λ n. refl) (λ n. refl) o e
    goes_good follow.Arrow a rest o l k e =
        member_good (kind.Mark mark.Arrow) (Arrow (expression_line left) left) a rest (λ n free. (line_is names left here f, k, free, f)) (λ n. l) (λ n. refl) (λ n. refl) o e
    goes_good follow.Increment a rest o l k e = step_good (kind.Mark mark.Increment) (PostIncrement (expression_line left) left) a rest (line_is names left here f, k, f) l refl refl o e
    goes_good follow.Decrement a rest o l k e = step_good (kind.Mark mark.Decrement) (PostDecrement (expression_line left) left) a rest (line_is names left here f, k, f) l refl refl o e

    tried_good : (o : Option Follow) (a : ExpressionTree) (rest : List Token) → follow_of t.kind ≡ o → tree_on names r level left o ts ≡ Some (a, rest) → Went a rest
    unfolding tree_on
    tried_good None a rest o e = absurd cc
    tried_good (Some w) a rest o e =
        let g = guarded _ (goes_on names r left w ts) (a, rest) e in
        let tests = and_parts (leb level (follow_rank w)) (leb (follow_left w) (rank left)) g.0 in
        goes_good w a rest (follow_of_is t.kind w o) (leb-true _ _ tests.0) (leb-true _ _ tests.1) g.1

  -- ---- growth

  longer_good : (level : ℕ) (here : List Token) (left : ExpressionTree) (ts : List Token) (a : ExpressionTree) (rest : List Token) → K ts → Fits names left here
      → Takes (expression_tokens left) here ts → longer_tree names r level below left ts ≡ Some (a, rest) → Longer names level (suc below) here ts a rest
  unfolding longer_tree
  longer_good level here left [] a rest known f h e = absurd cc
  longer_good level here left (t ∷ ts) a rest known f h e =
      let g = guarded _ (tree_on names r level left (follow_of t.kind) ts) (a, rest) e in
      tried_good level here left t ts (spelled.tail t ts known) f (leb-true _ _ g.0) h (follow_of t.kind) a rest refl g.1

  module _ (level : ℕ) (here : List Token) (all : K here) where
    abbrev Grows : (left : ExpressionTree) (ts : List Token) → ExpressionTree × List Token → Type 0
    Grows left ts x = Grown names level (suc below) here left ts x.0 x.1

    -- a growth that begins so
    abbrev Starts : (left : ExpressionTree) (ts : List Token) → Type 0
    Starts left ts = Fits names left here × (level ≤ rank left) × (expression_depth left ≤ suc below) × Takes (expression_tokens left) here ts

    ended : (left : ExpressionTree) (ts : List Token) → Starts left ts → Grows left ts (left, ts)
    ended left ts b = record { fits = b.0; tight = b.1; shallow = b.2; takes = b.3; shorter = inr refl }

    carried_good : (go : ExpressionTree → List Token → ExpressionTree × List Token) (left : ExpressionTree) (ts : List Token) (o : Read)
        → longer_tree names r level below left ts ≡ o → Starts left ts → ((a : ExpressionTree) (rest : List Token) → Starts a rest → Grows a rest (go a rest))
        → Grows left ts (on_with_tree go (left, ts) o)
    carried_good go left ts None e b h = ended left ts b
    carried_good go left ts (Some x) e b h =
        let known = known_behind (expression_tokens left) here ts b.3 all in
        let a = longer_good level here left ts x.0 x.1 known b.0 b.3 e in
        let g = h x.0 x.1 (a.fits, a.tight, a.shallow, a.takes) in
        record { fits = g.fits; tight = g.tight; shallow = g.shallow; takes = g.takes; shorter = inl (still_shorter (length ts) x.0 x.1 _ _ a.shorter g.shorter) }

    grown_for_good : (steps : ℕ) (left : ExpressionTree) (ts : List Token) → Starts left ts → Grows left ts (grown_for steps names r level below left ts)
    unfolding grown_for
    grown_for_good zero left ts b = ended left ts b
    grown_for_good (suc steps) left ts b =
        carried_good (grown_for steps names r level below) left ts (longer_tree names r level below left ts) refl b (λ a rest starts. grown_for_good steps a rest starts)

    pub grown_good : (left : ExpressionTree) (ts : List Token) → Fits names left here → level ≤ rank left → expression_depth left ≤ suc below
        → Takes (expression_tokens left) here ts → Grows left ts (longest_tree names r level below left ts)
    unfolding longest_tree
    grown_good left ts f l d h = grown_for_good (suc below) left ts (f, l, d, h)
