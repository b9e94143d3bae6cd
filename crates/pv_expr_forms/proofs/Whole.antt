-- What is spelled so is read: reading comes to it, and goes on from there.
use Rattle.std.proofs.Common.{◌≡◌, ◌≤◌, ◌<◌, ℕ, zero, suc, List, [], ◌∷◌, ◌++◌, length, drop, Some, sym, ap, subst, ◌∙◌, arith}
use Rattle.std.proofs.lemmas.List.{length-append}
use Rattle.pv_token.specs.declared.token_table.Token.{Token}
use Rattle.pv_token.specs.declared.token_table.TokenKind.TheVariants as kind
use Rattle.pv_token.specs.declared.marks.Mark.TheVariants as mark
use Rattle.pv_tree.specs.Syntax.{ExpressionTree, Name, Number, Character, Text, Paren, Index, Call, Member, Arrow, PostIncrement, PostDecrement, PreIncrement, PreDecrement, Unary, SizeofExpr, SizeofType, Cast, Binary, Conditional, Assign, Comma, ArgumentTrees, NoArguments, Argument}
use Rattle.pv_tree.specs.Depths.{expression_depth, arguments_depth}
use Rattle.pv_tree.specs.Lines.{expression_line}
use Rattle.pv_tree.specs.Levels.{rank}
use Rattle.pv_tree.specs.Spelling.{expression_tokens, arguments_tokens, before_argument}
use Rattle.pv_tree.specs.Grammar.{line_here}
use Rattle.pv_tree.specs.Spells.{Names, Fits, FitsArguments}
use Rattle.pv_expr_forms.specs.declared.follows.Prefix.TheVariants as prefix
use Rattle.pv_expr_forms.specs.declared.follows.Join.TheVariants as join
use Rattle.pv_expr_forms.specs.declared.follows.Follow.TheVariants as follow
use Rattle.pv_expr_forms.specs.Reader.{Read, goes_on, arguments_for, arguments, read}
use Rattle.pv_expr_forms.proofs.Runs.{Takes, takes_parts, parts_at, takes_rest, takes_length}
use Rattle.pv_expr_forms.proofs.Trees.{line_is, some_tokens}
use Rattle.pv_expr_forms.proofs.Ends.{stops_at}
use Rattle.pv_expr_forms.proofs.Beginnings.{begins_none, first_argument, opens_none}
use Rattle.pv_expr_forms.proofs.Forms.{goes_call_none, goes_call, arguments_more, arguments_last, arguments_by}
use Rattle.pv_expr_forms.proofs.Wholes.{IsWhole, AllWhole, exact_by, whole_name, whole_number, whole_character, whole_text, whole_paren, whole_prefixed, whole_sizeof_type, whole_cast, whole_join, whole_ask, whole_index, whole_call, whole_dot, whole_arrow, whole_increment, whole_decrement}

-- reading arguments from the first on comes to those before a place, and goes on from there with steps enough
pub record Comes (names : Names) (below steps : ℕ) (before : ArgumentTrees) (here ts : List Token) : Type 0 where
  pub more : ℕ
  pub enough : length ts < more
  pub is : arguments_for steps (read names below) NoArguments here ≡ arguments_for more (read names below) before ts

comes_from : (names : Names) (below steps : ℕ) (here ts : List Token) → length here < steps → here ≡ ts → Comes names below steps NoArguments here ts
comes_from names below steps here ts lt e = record {
  more = steps;
  enough = omega (arith, ap length e);
  is = ap (λ (x : List Token). arguments_for steps (read names below) NoArguments x) e;
}

comes_step : (names : Names) (below steps : ℕ) (before : ArgumentTrees) (x : ExpressionTree) (here mid : List Token) (c : Token) (ts : List Token) (more : ℕ)
    → length mid < more → length (c ∷ ts) < length mid → arguments_for steps (read names below) NoArguments here ≡ arguments_for more (read names below) before mid
    → read names below 2 mid ≡ Some (x, c ∷ ts) → c.kind ≡ kind.Mark mark.Comma → Comes names below steps (Argument before x) here ts
comes_step names below steps before x here mid c ts zero lt less e read k = absurd (omega arith)
comes_step names below steps before x here mid c ts (suc more) lt less e r k = record {
  more = more;
  enough = omega arith;
  is = e ∙ arguments_more (read names below) more before x mid c ts r k;
}

comes_next : (names : Names) (below steps : ℕ) (before : ArgumentTrees) (x : ExpressionTree) (here ts : List Token) → 2 ≤ rank x → expression_depth x ≤ below
    → AllWhole names x (drop (length (before_argument before (arguments_tokens before))) here)
    → Takes (arguments_tokens (Argument before x) ++ kind.Mark mark.Comma ∷ []) here ts
    → ((mid : List Token) → Takes (before_argument before (arguments_tokens before)) here mid → Comes names below steps before here mid)
    → Comes names below steps (Argument before x) here ts
comes_next names below steps before x here ts tight deep w h comes =
    let p = parts_at (arguments_tokens (Argument before x)) (kind.Mark mark.Comma) [] here ts h in
    let q = takes_parts (before_argument before (arguments_tokens before)) (expression_tokens x) here (p.token ∷ p.after) p.left in
    let place = takes_rest (before_argument before (arguments_tokens before)) here q.0 q.1 in
    let w' = subst (λ (y : List Token). AllWhole names x y) place w in
    let r = exact_by names x q.0 (p.token ∷ p.after) (w' (p.token ∷ p.after) q.2) below 2 tight deep (stops_at (kind.Mark mark.Comma) 2 p.token p.after p.kind (omega arith)) in
    let c = comes q.0 q.1 in
    subst (λ (y : List Token). Comes names below steps (Argument before x) here y) p.right
    (comes_step names below steps before x here q.0 p.token p.after c.more c.enough (omega (arith, takes_length (expression_tokens x) q.0 (p.token ∷ p.after) q.2, some_tokens x)) c.is r p.kind)

-- the last argument
last_step : (names : Names) (below : ℕ) (before : ArgumentTrees) (x : ExpressionTree) (ts mid : List Token) (c : Token) (rest : List Token) (more : ℕ) → length mid < more
    → arguments_for (suc (length ts)) (read names below) NoArguments ts ≡ arguments_for more (read names below) before mid → read names below 2 mid ≡ Some (x, c ∷ rest)
    → c.kind ≡ kind.Mark mark.CloseParen → arguments (read names below) NoArguments ts ≡ Some (Argument before x, rest)
last_step names below before x ts mid c rest zero lt e r k = absurd (omega arith)
last_step names below before x ts mid c rest (suc more) lt e r k =
    arguments_by (read names below) ts ∙ e ∙ arguments_last (read names below) more before x mid c rest r k

arguments_read : (names : Names) (below : ℕ) (before : ArgumentTrees) (x : ExpressionTree) (ts rest : List Token) → 2 ≤ rank x → expression_depth x ≤ below
    → AllWhole names x (drop (length (before_argument before (arguments_tokens before))) ts)
    → Takes (arguments_tokens (Argument before x) ++ kind.Mark mark.CloseParen ∷ []) ts rest
    → ((mid : List Token) → Takes (before_argument before (arguments_tokens before)) ts mid → Comes names below (suc (length ts)) before ts mid)
    → arguments (read names below) NoArguments ts ≡ Some (Argument before x, rest)
arguments_read names below before x ts rest tight deep w h comes =
    let p = parts_at (arguments_tokens (Argument before x)) (kind.Mark mark.CloseParen) [] ts rest h in
    let q = takes_parts (before_argument before (arguments_tokens before)) (expression_tokens x) ts (p.token ∷ p.after) p.left in
    let place = takes_rest (before_argument before (arguments_tokens before)) ts q.0 q.1 in
    let w' = subst (λ (y : List Token). AllWhole names x y) place w in
    let r = exact_by names x q.0 (p.token ∷ p.after) (w' (p.token ∷ p.after) q.2) below 2 tight deep (stops_at (kind.Mark mark.CloseParen) 2 p.token p.after p.kind (omega arith)) in
    let c = comes q.0 q.1 in
    subst (λ (y : List Token). arguments (read names below) NoArguments ts ≡ Some (Argument before x, y)) p.right
    (last_step names below before x ts q.0 p.token p.after c.more c.enough c.is r p.kind)

-- a call without arguments, and one with some
called_none : (names : Names) (callee : ExpressionTree) (ts rest : List Token) (below : ℕ) → Takes (kind.Mark mark.CloseParen ∷ []) ts rest
    → goes_on names (read names below) callee follow.Call ts ≡ Some (Call (expression_line callee) callee NoArguments, rest)
called_none names callee [] rest below h = absurd h
called_none names callee (c ∷ ts) rest below h =
    goes_call_none names (read names below) callee c ts h.0 ∙ ap (λ (x : List Token). let y : Read = Some (Call (expression_line callee) callee NoArguments, x) in y) h.1

called_some : (names : Names) (callee : ExpressionTree) (before : ArgumentTrees) (x : ExpressionTree) (ts rest : List Token) (below : ℕ)
    → FitsArguments names (Argument before x) ts → Takes (arguments_tokens (Argument before x) ++ kind.Mark mark.CloseParen ∷ []) ts rest
    → arguments (read names below) NoArguments ts ≡ Some (Argument before x, rest)
    → goes_on names (read names below) callee follow.Call ts ≡ Some (Call (expression_line callee) callee (Argument before x), rest)
called_some names callee before x [] rest below f h e =
    absurd (omega (arith, takes_length (arguments_tokens (Argument before x) ++ kind.Mark mark.CloseParen ∷ []) [] rest h, length-append (arguments_tokens (Argument before x)) (kind.Mark mark.CloseParen ∷ [])))
called_some names callee before x (c ∷ ts) rest below f h e =
    let p = takes_parts (arguments_tokens (Argument before x)) (kind.Mark mark.CloseParen ∷ []) (c ∷ ts) rest h in
    goes_call names (read names below) callee (Argument before x) c ts rest (first_argument names before x c ts p.0 f p.1) e

-- a line that the first operand has
first_line : (names : Names) (make : ℕ → ExpressionTree) (line : ℕ) (a : ExpressionTree) (here rest : List Token) → line ≡ line_here here → Fits names a here
    → IsWhole names (make (expression_line a)) here rest → IsWhole names (make line) here rest
first_line names make line a here rest e f w = subst (λ (l : ℕ). IsWhole names (make l) here rest) (line_is names a here f ∙ sym e) w

mutual
  pub whole : (names : Names) (a : ExpressionTree) (here : List Token) → Fits names a here → AllWhole names a here
  whole names (Name line n) here f rest h = whole_name names line n here rest f.0 f.1 h
  whole names (Number line value decimal unsigned longs) here f rest h = whole_number names line value decimal unsigned longs here rest f h
  whole names (Character line value) here f rest h = whole_character names line value here rest f h
  whole names (Text line first more) here f rest h = whole_text names line first more here rest f h
  whole names (Paren line a) here f rest h = whole_paren names line a here rest f.0 f.1 (λ mid k. begins_none names a (drop 1 here) mid f.2 k) (whole names a (drop 1 here) f.2) h
  whole names (PreIncrement line a) here f rest h = whole_prefixed names line prefix.Increment a here rest f.0 f.1 (λ mid k. tt) (whole names a (drop 1 here) f.2) h
  whole names (PreDecrement line a) here f rest h = whole_prefixed names line prefix.Decrement a here rest f.0 f.1 (λ mid k. tt) (whole names a (drop 1 here) f.2) h
  whole names (Unary line op a) here f rest h = whole_prefixed names line (prefix.Unary op) a here rest f.0 f.1 (λ mid k. tt) (whole names a (drop 1 here) f.2) h
  whole names (SizeofExpr line a) here f rest h = whole_prefixed names line prefix.Sizeof a here rest f.0 f.1 (λ mid k. opens_none names a (drop 1 here) mid f.1 f.2 k) (whole names a (drop 1 here) f.2) h
  whole names (SizeofType line type) here f rest h = whole_sizeof_type names line type here rest f.0 f.1 h
  whole names (Cast line type a) here f rest h = whole_cast names line type a here rest f.0 f.1 f.2 (whole names a _ f.3) h
  whole names (Binary line op a b) here f rest h =
      first_line names (λ l. Binary l op a b) line a here rest f.0 f.3 (whole_join names a here (whole names a here f.3) (join.Binary op) b rest f.1 f.2 (whole names b _ f.4) h)
  whole names (Assign line op a b) here f rest h =
      first_line names (λ l. Assign l op a b) line a here rest f.0 f.3 (whole_join names a here (whole names a here f.3) (join.Assign op) b rest f.1 f.2 (whole names b _ f.4) h)
  whole names (Comma line a b) here f rest h =
      first_line names (λ l. Comma l a b) line a here rest f.0 f.3 (whole_join names a here (whole names a here f.3) join.Comma b rest f.1 f.2 (whole names b _ f.4) h)
  whole names (Conditional line a b c) here f rest h =
      first_line names (λ l. Conditional l a b c) line a here rest f.0 f.4 (whole_ask names a here (whole names a here f.4) b c rest f.1 f.2 f.3 (whole names b _ f.5) (whole names c _ f.6) h)
  whole names (Index line a i) here f rest h =
      first_line names (λ l. Index l a i) line a here rest f.0 f.3 (whole_index names a here (whole names a here f.3) i rest f.1 f.2 (whole names i _ f.4) h)
  whole names (Call line callee args) here f rest h =
      first_line names (λ l. Call l callee args) line callee here rest f.0 f.2 (whole_call names callee here (whole names callee here f.2) args rest f.1
      (λ ts place k below d. whole_called names args ts (subst (λ (x : List Token). FitsArguments names args x) place f.3) rest k below d callee) h)
  whole names (Member line a n) here f rest h =
      first_line names (λ l. Member l a n) line a here rest f.0 f.3 (whole_dot names a here (whole names a here f.3) n rest f.1 f.2 h)
  whole names (Arrow line a n) here f rest h =
      first_line names (λ l. Arrow l a n) line a here rest f.0 f.3 (whole_arrow names a here (whole names a here f.3) n rest f.1 f.2 h)
  whole names (PostIncrement line a) here f rest h =
      first_line names (λ l. PostIncrement l a) line a here rest f.0 f.2 (whole_increment names a here (whole names a here f.2) rest f.1 h)
  whole names (PostDecrement line a) here f rest h =
      first_line names (λ l. PostDecrement l a) line a here rest f.0 f.2 (whole_decrement names a here (whole names a here f.2) rest f.1 h)

  -- reading comes to arguments that a comma follows
  whole_arguments : (names : Names) (before : ArgumentTrees) (here ts : List Token) → FitsArguments names before here
      → Takes (before_argument before (arguments_tokens before)) here ts → (below : ℕ) → arguments_depth before ≤ below → (steps : ℕ) → length here < steps
      → Comes names below steps before here ts
  whole_arguments names NoArguments here ts f h below d steps lt = comes_from names below steps here ts lt h
  whole_arguments names (Argument before x) here ts f h below d steps lt =
      comes_next names below steps before x here ts f.1 (omega (arith, d)) (whole names x _ f.2) h (λ mid k. whole_arguments names before here mid f.0 k below (omega (arith, d)) steps lt)

  -- reading gives a call's arguments
  whole_called : (names : Names) (args : ArgumentTrees) (ts : List Token) → FitsArguments names args ts → (rest : List Token)
      → Takes (arguments_tokens args ++ kind.Mark mark.CloseParen ∷ []) ts rest → (below : ℕ) → arguments_depth args ≤ below → (callee : ExpressionTree)
      → goes_on names (read names below) callee follow.Call ts ≡ Some (Call (expression_line callee) callee args, rest)
  whole_called names NoArguments ts f rest h below d callee = called_none names callee ts rest below h
  whole_called names (Argument before x) ts f rest h below d callee =
      called_some names callee before x ts rest below f h
      (arguments_read names below before x ts rest f.1 (omega (arith, d)) (whole names x _ f.2) h (λ mid k. whole_arguments names before ts mid f.0 k below (omega (arith, d)) (suc (length ts)) (omega arith)))
