-- One step of reading.
use Rattle.std.proofs.Common.{◌≡◌, ◌≤◌, ◌<◌, ◌+◌, ℕ, zero, suc, max, Bool, true, false, cond, List, [], ◌∷◌, length, Option, Some, None, option_map, option_and_then, refl, sym, ap, ◌∙◌, arith}
use Rattle.std.proofs.lemmas.Bool.{leb-true}
use Rattle.pv_token.specs.declared.token_table.Token.{Token}
use Rattle.pv_token.specs.declared.token_table.TokenKind.{TokenKind}
use Rattle.pv_token.specs.declared.token_table.TokenKind.TheVariants as kind
use Rattle.pv_tree.specs.Syntax.{ExpressionTree, Call, Member, Arrow, PostIncrement, PostDecrement, Conditional, ArgumentTrees, NoArguments, Argument}
use Rattle.pv_tree.specs.Depths.{expression_depth}
use Rattle.pv_tree.specs.Lines.{expression_line}
use Rattle.pv_tree.specs.Spells.{Names}
use Rattle.pv_expr_forms.specs.declared.follows.Join.{Join}
use Rattle.pv_expr_forms.specs.declared.follows.Join.TheVariants as join
use Rattle.pv_expr_forms.specs.declared.follows.Follow.{Follow}
use Rattle.pv_expr_forms.specs.declared.follows.Follow.TheVariants as follow
use Rattle.pv_expr_forms.specs.Follows.{join_right, join_tree, follow_of}
use Rattle.pv_expr_forms.specs.Reader.{Read, Reads, is_close, is_comma, is_bracket, is_colon, after, index_end, third_operand, more_arguments, arguments_for, arguments, call_behind, selected_by, selection_behind, goes_on, tree_on, longer_tree, on_with_tree, grown_for, longest_tree}

-- ---- tests and options

pub guarded : {A : Type 0} (b : Bool) (o : Option A) (y : A) → cond b o None ≡ Some y → (b ≡ true) × (o ≡ Some y)
guarded true o y e = (refl, e)
guarded false o y e = absurd cc

pub unless : {A : Type 0} (b : Bool) (o : Option A) (y : A) → cond b None o ≡ Some y → (b ≡ false) × (o ≡ Some y)
unless true o y e = absurd cc
unless false o y e = (refl, e)

pub mapped : {A B : Type 0} (f : A → B) (o : Option A) (y : B) → option_map f o ≡ Some y → (x : A) × (o ≡ Some x) × (f x ≡ y)
mapped f None y e = absurd cc
mapped f (Some x) y e = (x, refl, cc)

pub followed : {A B : Type 0} (f : A → Option B) (o : Option A) (y : B) → option_and_then f o ≡ Some y → (x : A) × (o ≡ Some x) × (f x ≡ Some y)
followed f None y e = absurd cc
followed f (Some x) y e = (x, refl, e)

pub some_is : {A : Type 0} (x y : A) → Some x ≡ Some y → x ≡ y
some_is x y e = cc

-- ---- how much deeper

pub depth_joined : (op : Join) (a b : ExpressionTree) → expression_depth (join_tree op a b) ≡ suc (max (expression_depth a) (expression_depth b))
depth_joined (join.Binary op) a b = refl
depth_joined (join.Assign op) a b = refl
depth_joined join.Comma a b = refl

-- a member's name
pub record Selected (names : Names) (make : ℕ → ExpressionTree) (k : TokenKind) (ts : List Token) (a : ExpressionTree) (rest : List Token) : Type 0 where
  pub name : ℕ
  pub kind_is : k ≡ kind.Name name
  pub free : names.is_type name ≡ false
  pub is : make name ≡ a
  pub rest_is : ts ≡ rest

pub selected_by_is : (names : Names) (make : ℕ → ExpressionTree) (k : TokenKind) (ts : List Token) (a : ExpressionTree) (rest : List Token)
    → selected_by names make k ts ≡ Some (a, rest) → Selected names make k ts a rest
unfolding selected_by
selected_by_is names make (kind.Name n) ts a rest e =
    let g = unless {A = ExpressionTree × List Token} (names.is_type n) (Some (make n, ts)) (a, rest) e in
    let p : ◌≡◌ {A = ExpressionTree × List Token} (make n, ts) (a, rest) = some_is _ _ g.1 in
    record { name = n; kind_is = refl; free = g.0; is = ap (λ (x : ExpressionTree × List Token). x.0) p; rest_is = ap (λ (x : ExpressionTree × List Token). x.1) p }
selected_by_is names make _ ts a rest e = absurd cc

selected_deeper : (names : Names) (make : ℕ → ExpressionTree) (n : ℕ) → ((k : ℕ) → n < expression_depth (make k))
    → (ts : List Token) (a : ExpressionTree) (rest : List Token) → selection_behind names make ts ≡ Some (a, rest) → n < expression_depth a
unfolding selection_behind
selected_deeper names make n deep [] a rest e = absurd cc
selected_deeper names make n deep (t ∷ ts) a rest e =
    let s = selected_by_is names make t.kind ts a rest e in
    omega (arith, deep s.name, ap (λ (x : ExpressionTree). expression_depth x) s.is)

first_depth : (a b : ExpressionTree) (ts rest : List Token) → ◌≡◌ {A = Read} (Some (a, ts)) (Some (b, rest)) → expression_depth a ≡ expression_depth b
first_depth a b ts rest e = let p : ◌≡◌ {A = ExpressionTree × List Token} (a, ts) (b, rest) = some_is _ _ e in ap (λ (x : ExpressionTree × List Token). expression_depth x.0) p

called_deeper : (b : Bool) (left : ExpressionTree) (ts : List Token) (o : Option (ArgumentTrees × List Token)) (a : ExpressionTree) (rest : List Token)
    → cond {A = Read} b (Some (Call (expression_line left) left NoArguments, ts)) (option_map (λ x. (Call (expression_line left) left x.0, x.1)) o) ≡ Some (a, rest)
    → expression_depth left < expression_depth a
called_deeper true left ts o a rest e = omega (arith, first_depth (Call (expression_line left) left NoArguments) a ts rest e)
called_deeper false left ts o a rest e =
    let m = mapped (λ (x : ArgumentTrees × List Token). let y : ExpressionTree × List Token = (Call (expression_line left) left x.0, x.1) in y) o (a, rest) e in
    omega (arith, ap (λ (x : ExpressionTree × List Token). expression_depth x.0) m.2)

pub goes_deeper : (names : Names) (r : Reads) (left : ExpressionTree) (f : Follow) (ts : List Token) (a : ExpressionTree) (rest : List Token)
    → goes_on names r left f ts ≡ Some (a, rest) → expression_depth left < expression_depth a
unfolding goes_on index_end third_operand call_behind
goes_deeper names r left (follow.Join op) ts a rest e =
    let m = mapped _ (r (join_right op) ts) (a, rest) e in
    omega (arith, depth_joined op left m.0.0, ap (λ (x : ExpressionTree × List Token). expression_depth x.0) m.2)
goes_deeper names r left follow.Ask ts a rest e =
    let m = followed (λ (x : ExpressionTree × List Token). third_operand r left x.0 x.1) (r 1 ts) (a, rest) e in
    let k = followed (λ (y : List Token). option_map (λ x. (Conditional (expression_line left) left m.0.0 x.0, x.1)) (r 3 y)) (after is_colon m.0.1) (a, rest) m.2 in
    let n = mapped _ (r 3 k.0) (a, rest) k.2 in
    omega (arith, ap (λ (x : ExpressionTree × List Token). expression_depth x.0) n.2)
goes_deeper names r left follow.Index ts a rest e =
    let m = followed (λ (x : ExpressionTree × List Token). index_end left x.0 x.1) (r 1 ts) (a, rest) e in
    let k = mapped _ (after is_bracket m.0.1) (a, rest) m.2 in
    omega (arith, ap (λ (x : ExpressionTree × List Token). expression_depth x.0) k.2)
goes_deeper names r left follow.Call [] a rest e = absurd cc
goes_deeper names r left follow.Call (t ∷ ts) a rest e = called_deeper (is_close t.kind) left ts (arguments r NoArguments (t ∷ ts)) a rest e
goes_deeper names r left follow.Dot ts a rest e = selected_deeper names (Member (expression_line left) left) (expression_depth left) (λ k. omega arith) ts a rest e
goes_deeper names r left follow.Arrow ts a rest e = selected_deeper names (Arrow (expression_line left) left) (expression_depth left) (λ k. omega arith) ts a rest e
goes_deeper names r left follow.Increment ts a rest e = omega (arith, first_depth (PostIncrement (expression_line left) left) a ts rest e)
goes_deeper names r left follow.Decrement ts a rest e = omega (arith, first_depth (PostDecrement (expression_line left) left) a ts rest e)

tried_goes : (names : Names) (r : Reads) (level : ℕ) (left : ExpressionTree) (o : Option Follow) (ts : List Token) (a : ExpressionTree) (rest : List Token)
    → tree_on names r level left o ts ≡ Some (a, rest) → expression_depth left < expression_depth a
unfolding tree_on
tried_goes names r level left None ts a rest e = absurd cc
tried_goes names r level left (Some f) ts a rest e = goes_deeper names r left f ts a rest (guarded _ (goes_on names r left f ts) (a, rest) e).1

-- a goes on from left
pub record Goes (below : ℕ) (left a : ExpressionTree) : Type 0 where
  pub grows : expression_depth left < expression_depth a
  pub was_shallow : expression_depth left ≤ below

pub longer_goes : (names : Names) (r : Reads) (level below : ℕ) (left : ExpressionTree) (ts : List Token) (a : ExpressionTree) (rest : List Token)
    → longer_tree names r level below left ts ≡ Some (a, rest) → Goes below left a
unfolding longer_tree
longer_goes names r level below left [] a rest e = absurd cc
longer_goes names r level below left (t ∷ ts) a rest e =
    let g = guarded _ (tree_on names r level left (follow_of t.kind) ts) (a, rest) e in
    record { grows = tried_goes names r level left (follow_of t.kind) ts a rest g.1; was_shallow = leb-true (expression_depth left) below g.0 }

-- ---- growth by steps

carried_same : {A : Type 0} (f g : ExpressionTree → List Token → A) (stop : A) (o : Read)
    → ((a : ExpressionTree) (rest : List Token) → o ≡ Some (a, rest) → f a rest ≡ g a rest) → on_with_tree f stop o ≡ on_with_tree g stop o
carried_same f g stop None h = refl
carried_same f g stop (Some x) h = h x.0 x.1 refl

carried_stop : (f : ExpressionTree → List Token → ExpressionTree × List Token) (left : ExpressionTree) (ts : List Token) (o : Read)
    → ((a : ExpressionTree) (rest : List Token) → o ≡ Some (a, rest) → ⊥) → on_with_tree f (left, ts) o ≡ (left, ts)
carried_stop f left ts None h = refl
carried_stop f left ts (Some x) h = absurd (h x.0 x.1 refl)

-- enough steps are as good as any
grown_enough : (g h : ℕ) (names : Names) (r : Reads) (level below : ℕ) (left : ExpressionTree) (ts : List Token) → suc below ≤ g + expression_depth left
    → suc below ≤ h + expression_depth left → grown_for g names r level below left ts ≡ grown_for h names r level below left ts
unfolding grown_for
grown_enough zero zero names r level below left ts p q = refl
grown_enough zero (suc h) names r level below left ts p q =
    sym (carried_stop (grown_for h names r level below) left ts (longer_tree names r level below left ts) (λ a rest e. let k = longer_goes names r level below left ts a rest e in omega (arith, k.was_shallow)))
grown_enough (suc g) zero names r level below left ts p q =
    carried_stop (grown_for g names r level below) left ts (longer_tree names r level below left ts) (λ a rest e. let k = longer_goes names r level below left ts a rest e in omega (arith, k.was_shallow))
grown_enough (suc g) (suc h) names r level below left ts p q =
    carried_same (grown_for g names r level below) (grown_for h names r level below) (left, ts) (longer_tree names r level below left ts)
    (λ a rest e. let k = longer_goes names r level below left ts a rest e in grown_enough g h names r level below a rest (omega (arith, k.grows)) (omega (arith, k.grows)))

-- one step, and the rest of them
pub grown_step : (names : Names) (r : Reads) (level below : ℕ) (left : ExpressionTree) (ts : List Token)
    → longest_tree names r level below left ts ≡ on_with_tree (longest_tree names r level below) (left, ts) (longer_tree names r level below left ts)
unfolding longest_tree grown_for
grown_step names r level below left ts =
    carried_same (grown_for below names r level below) (grown_for (suc below) names r level below) (left, ts) (longer_tree names r level below left ts)
    (λ a rest e. let k = longer_goes names r level below left ts a rest e in grown_enough below (suc below) names r level below a rest (omega (arith, k.grows)) (omega (arith, k.grows)))

pub grown_on : (names : Names) (r : Reads) (level below : ℕ) (left : ExpressionTree) (ts : List Token) (a : ExpressionTree) (rest : List Token)
    → longer_tree names r level below left ts ≡ Some (a, rest) → longest_tree names r level below left ts ≡ longest_tree names r level below a rest
grown_on names r level below left ts a rest e = grown_step names r level below left ts ∙ ap (on_with_tree (longest_tree names r level below) (left, ts)) e

pub grown_stop : (names : Names) (r : Reads) (level below : ℕ) (left : ExpressionTree) (ts : List Token) → longer_tree names r level below left ts ≡ None
    → longest_tree names r level below left ts ≡ (left, ts)
grown_stop names r level below left ts e = grown_step names r level below left ts ∙ ap (on_with_tree (longest_tree names r level below) (left, ts)) e

-- ---- arguments by steps

-- what is read takes a token, where K holds of the tokens, and then K holds of those behind it
pub record Shortens (K : List Token → Type 0) (r : Reads) : Type 0 where
  pub tail : (t : Token) (ts : List Token) → K (t ∷ ts) → K ts
  pub less : (level : ℕ) (ts : List Token) (a : ExpressionTree) (rest : List Token) → K ts → r level ts ≡ Some (a, rest) → length rest < length ts
  pub known : (level : ℕ) (ts : List Token) (a : ExpressionTree) (rest : List Token) → K ts → r level ts ≡ Some (a, rest) → K rest

further_same : (f g : ArgumentTrees → List Token → Option (ArgumentTrees × List Token)) (before : ArgumentTrees) (ts : List Token)
    → ((t : Token) (rest : List Token) → ts ≡ t ∷ rest → f before rest ≡ g before rest) → more_arguments f before ts ≡ more_arguments g before ts
unfolding more_arguments
further_same f g before [] h = refl
further_same f g before (t ∷ ts) h = ap (λ (x : Option (ArgumentTrees × List Token)). cond (is_comma t.kind) x (cond (is_close t.kind) (Some (before, ts)) None)) (h t ts refl)

read_same : (f g : ExpressionTree → List Token → Option (ArgumentTrees × List Token)) (o : Read)
    → ((a : ExpressionTree) (rest : List Token) → o ≡ Some (a, rest) → f a rest ≡ g a rest) → option_and_then (λ x. f x.0 x.1) o ≡ option_and_then (λ x. g x.0 x.1) o
read_same f g None h = refl
read_same f g (Some x) h = h x.0 x.1 refl

module _ (K : List Token → Type 0) (r : Reads) (short : Shortens K r) where
  arguments_enough : (g h : ℕ) (before : ArgumentTrees) (ts : List Token) → K ts → length ts < g → length ts < h
      → arguments_for g r before ts ≡ arguments_for h r before ts
  unfolding arguments_for
  arguments_enough zero h before ts known p q = absurd (omega arith)
  arguments_enough (suc g) zero before ts known p q = absurd (omega arith)
  arguments_enough (suc g) (suc h) before ts known p q =
      read_same (λ a rest. more_arguments (arguments_for g r) (Argument before a) rest) (λ a rest. more_arguments (arguments_for h r) (Argument before a) rest) (r 2 ts)
      (λ a rest e. further_same (arguments_for g r) (arguments_for h r) (Argument before a) rest
      (λ t others is.
      let less : length (t ∷ others) < length ts = omega (arith, short.less 2 ts a rest known e, ap length is) in
      let there : K (t ∷ others) = rw is at (short.known 2 ts a rest known e) in
      arguments_enough g h (Argument before a) others (short.tail t others there) (omega arith) (omega arith)))

  -- one argument, and the rest of them
  pub arguments_step : (before : ArgumentTrees) (ts : List Token) → K ts
      → arguments r before ts ≡ option_and_then (λ x. more_arguments (arguments r) (Argument before x.0) x.1) (r 2 ts)
  unfolding arguments arguments_for
  arguments_step before ts known =
      read_same (λ a rest. more_arguments (arguments_for (length ts) r) (Argument before a) rest) (λ a rest. more_arguments (arguments r) (Argument before a) rest) (r 2 ts)
      (λ a rest e. further_same (arguments_for (length ts) r) (arguments r) (Argument before a) rest
      (λ t others is.
      let less : length (t ∷ others) < length ts = omega (arith, short.less 2 ts a rest known e, ap length is) in
      let there : K (t ∷ others) = rw is at (short.known 2 ts a rest known e) in
      arguments_enough (length ts) (suc (length others)) (Argument before a) others (short.tail t others there) (omega arith) (omega arith)))
