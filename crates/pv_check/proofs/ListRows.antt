-- Lists of the grammar, which are typed from the left.
use Rattle.std.proofs.Common.{◌≡◌, ℕ, ℤ, ◌+◌, ◌<◌, ◌≤◌, Bool, true, Some, None, IfSome, List, [], ◌∷◌, ◌++◌, Option, length, take, drop, get_or, slice_index_or, refl, sym, ap, arith, ◌∙◌}
use Rattle.std.proofs.lemmas.List.{take_more, take-append-drop}
use Rattle.std.specs.List.{fold}
use Rattle.pv_tree.specs.declared.nodes.NodeId.{NodeId}
use Rattle.pv_tree.specs.declared.nodes.ListId.{ListId}
use Rattle.pv_tree.specs.Syntax.{Tree, OfExpression, OfDeclaration, OfDeclarator, OfSpecifier, OfInitializer, OfStatement, ExpressionTree, ArgumentTrees, Argument, NoArguments, Trees, NoTrees, Then, Present}
use Rattle.pv_tree.specs.Tables.{Forest, list_at, tree_at, trees_of, trees_at, expression_at, arguments_of, arguments_at, as_declarator, is_declarator, as_expression, is_expression, optional_at, HasList}
use Rattle.pv_typed.specs.Tables.{Stored}
use Rattle.pv_typed.specs.TypedTree.{TypedTree}
use Rattle.pv_check.specs.Open.{Goes}
use Rattle.pv_check.specs.Rows.{operand, integer_value}
use Rattle.pv_check.specs.RowParts.{with_argument, known_size}
use Rattle.pv_check.specs.State.{State, After}
use Rattle.pv_typed.specs.Constants.{and_then}
use Rattle.pv_check.specs.Typing.{types, arguments, array_size, enumerator_value}
use Rattle.pv_check.proofs.Opening.{then_goes}

abbrev behind : Forest → Trees → NodeId → Trees
behind f before n = Then before (tree_at f n)

fold_append : {A B : Type 0} (g : B → A → B) (b : B) (xs ys : List A) → fold g b (xs ++ ys) ≡ fold g (fold g b xs) ys
fold_append g b [] ys = refl
fold_append g b (x ∷ xs) ys = fold_append g (g b x) xs ys

-- the trees of one number more
pub trees_more : (f : Forest) (ns : List NodeId) (i : ℕ) (d : NodeId) → i < length ns → trees_of f (take (i + 1) ns) ≡ Then (trees_of f (take i ns)) (tree_at f (get_or ns i d))
trees_more f ns i d lt = ap (trees_of f) (take_more ns i d lt) ∙ fold_append (behind f) NoTrees (take i ns) (get_or ns i d ∷ [])

-- a list whose trees are typed by `one`, each after those before it
module _ {A : Type 0} (run : Trees → State → Option (After A)) (one : Tree → After A → Option (After A)) (is : (before : Trees) (t : Tree) (s : State) → run (Then before t) s ≡ and_then (run before s) (one t)) where
  none_behind : (f : Forest) (before : Trees) (ns : List NodeId) (s : State) → run before s ≡ None → run (fold (behind f) before ns) s ≡ None
  none_behind f before [] s h = h
  none_behind f before (n ∷ ns) s h = none_behind f (Then before (tree_at f n)) ns s (is before (tree_at f n) s ∙ ap (λ o. and_then o (one (tree_at f n))) h)

  -- where those before a place are not typed, the list is not
  pub none_after : (f : Forest) (ns : List NodeId) (i : ℕ) (s : State) → run (trees_of f (take i ns)) s ≡ None → run (trees_of f ns) s ≡ None
  none_after f ns i s h =
      ap (λ xs. run (trees_of f xs) s) (sym (take-append-drop i ns))
      ∙ ap (λ t. run t s) (fold_append (behind f) NoTrees (take i ns) (drop i ns))
      ∙ none_behind f (trees_of f (take i ns)) (drop i ns) s h

  -- the tree at a place, after those before it
  pub one_more : (f : Forest) (ns : List NodeId) (i : ℕ) (d : NodeId) (s : State) (a : After A) → i < length ns → Some a ≡ run (trees_of f (take i ns)) s
      → one (tree_at f (get_or ns i d)) a ≡ run (trees_of f (take (i + 1) ns)) s
  one_more f ns i d s a lt h =
      ap (λ (o : Option (After A)). and_then o (one (tree_at f (get_or ns i d)))) h
      ∙ sym (is (trees_of f (take i ns)) (tree_at f (get_or ns i d)) s)
      ∙ ap (λ t. run t s) (sym (trees_more f ns i d lt))

  -- a tree that is not typed, so that the list is not
  pub none_at : (f : Forest) (ns : List NodeId) (i : ℕ) (d : NodeId) (s : State) (a : After A) → i < length ns → Some a ≡ run (trees_of f (take i ns)) s
      → None ≡ one (tree_at f (get_or ns i d)) a → None ≡ run (trees_of f ns) s
  none_at f ns i d s a lt h e = sym (none_after f ns (i + 1) s (sym (e ∙ one_more f ns i d s a lt h)))

  -- the same of a list that is read
  pub none_in : (f : Forest) (l : ListId) (ns : List NodeId) (i : ℕ) (d : NodeId) (s : State) (a : After A) → ns ≡ list_at f l → i < length ns → Some a ≡ run (trees_of f (take i ns)) s
      → None ≡ one (tree_at f (get_or ns i d)) a → None ≡ run (trees_at f l) s
  none_in f l ns i d s a same lt h e = none_at f ns i d s a lt h e ∙ ap (λ xs. run (trees_of f xs) s) same

-- ---- the arguments of a call

abbrev argument_behind : Forest → ArgumentTrees → NodeId → ArgumentTrees
argument_behind f before n = Argument before (expression_at f n)

pub arguments_more : (f : Forest) (ns : List NodeId) (i : ℕ) (d : NodeId) → i < length ns → arguments_of f (take (i + 1) ns) ≡ Argument (arguments_of f (take i ns)) (expression_at f (get_or ns i d))
arguments_more f ns i d lt = ap (arguments_of f) (take_more ns i d lt) ∙ fold_append (argument_behind f) NoArguments (take i ns) (get_or ns i d ∷ [])

-- one argument more
abbrev pub one_argument : ExpressionTree → After (List TypedTree) → Option (After (List TypedTree))
one_argument e l = and_then (operand (types e l.state)) (with_argument l.value)

no_arguments_behind : (f : Forest) (before : ArgumentTrees) (ns : List NodeId) (s : State) → arguments before s ≡ None → arguments (fold (argument_behind f) before ns) s ≡ None
no_arguments_behind f before [] s h = h
no_arguments_behind f before (n ∷ ns) s h = no_arguments_behind f (Argument before (expression_at f n)) ns s (ap (λ o. and_then o (one_argument (expression_at f n))) h)

no_arguments_after : (f : Forest) (ns : List NodeId) (i : ℕ) (s : State) → arguments (arguments_of f (take i ns)) s ≡ None → arguments (arguments_of f ns) s ≡ None
no_arguments_after f ns i s h =
    ap (λ xs. arguments (arguments_of f xs) s) (sym (take-append-drop i ns))
    ∙ ap (λ t. arguments t s) (fold_append (argument_behind f) NoArguments (take i ns) (drop i ns))
    ∙ no_arguments_behind f (arguments_of f (take i ns)) (drop i ns) s h

pub argument_more : (f : Forest) (ns : List NodeId) (i : ℕ) (d : NodeId) (s : State) (a : After (List TypedTree)) → i < length ns → Some a ≡ arguments (arguments_of f (take i ns)) s
    → one_argument (expression_at f (get_or ns i d)) a ≡ arguments (arguments_of f (take (i + 1) ns)) s
argument_more f ns i d s a lt h =
    ap (λ (o : Option (After (List TypedTree))). and_then o (one_argument (expression_at f (get_or ns i d)))) h
    ∙ ap (λ t. arguments t s) (sym (arguments_more f ns i d lt))

pub no_argument_at : (f : Forest) (ns : List NodeId) (i : ℕ) (d : NodeId) (s : State) (a : After (List TypedTree)) → i < length ns → Some a ≡ arguments (arguments_of f (take i ns)) s
    → None ≡ operand (types (expression_at f (get_or ns i d)) a.state) → None ≡ arguments (arguments_of f ns) s
no_argument_at f ns i d s a lt h e =
    sym (no_arguments_after f ns (i + 1) s (sym (ap (λ (o : Option (After TypedTree)). and_then o (with_argument a.value)) e ∙ argument_more f ns i d s a lt h)))

pub no_argument_in : (f : Forest) (l : ListId) (ns : List NodeId) (i : ℕ) (d : NodeId) (s : State) (a : After (List TypedTree)) → ns ≡ list_at f l → i < length ns
    → Some a ≡ arguments (arguments_of f (take i ns)) s → None ≡ operand (types (expression_at f (get_or ns i d)) a.state) → None ≡ arguments (arguments_at f l) s
no_argument_in f l ns i d s a same lt h e = no_argument_at f ns i d s a lt h e ∙ ap (λ xs. arguments (arguments_of f xs) s) same

-- ---- what a row's answer carries on

pub if_goes : {A : Type 0} (o : Option A) (a b c : Stored) → Goes a b → IfSome o (λ x. Goes b c) → IfSome o (λ x. Goes a c)
if_goes None a b c g h = tt
if_goes (Some x) a b c g h = then_goes a b c g h

pub has_more : (f : Forest) (kind : Tree → Bool) (n k : ℕ) (l : ListId) → n ≤ k → HasList f n kind l → HasList f k kind l
has_more f kind n k l le h = (h.0, λ i d lt. let x = h.1 i d lt in (let below : (slice_index_or (list_at f l) i d).0 < n = x.0 in omega (arith, below, le), x.1))

pub has_within : (f : Forest) (kind : Tree → Bool) (n k : ℕ) (l : ListId) → n < k → HasList f n kind l → HasList f k kind l
has_within f kind n k l lt h = has_more f kind n k l (omega (arith, lt)) h

pub declarator_is : (t : Tree) → is_declarator t ≡ true → t ≡ OfDeclarator (as_declarator t)
declarator_is (OfDeclarator x) h = refl
declarator_is (OfExpression x) h = absurd cc
declarator_is (OfDeclaration x) h = absurd cc
declarator_is (OfSpecifier x) h = absurd cc
declarator_is (OfInitializer x) h = absurd cc
declarator_is (OfStatement x) h = absurd cc

expression_is : (t : Tree) → is_expression t ≡ true → t ≡ OfExpression (as_expression t)
expression_is (OfExpression x) h = refl
expression_is (OfDeclaration x) h = absurd cc
expression_is (OfDeclarator x) h = absurd cc
expression_is (OfSpecifier x) h = absurd cc
expression_is (OfInitializer x) h = absurd cc
expression_is (OfStatement x) h = absurd cc

-- the expression in an array's brackets
pub size_at : (f : Forest) (o : Option NodeId) (n : NodeId) (s : State) → o ≡ Some n → is_expression (tree_at f n) ≡ true
    → and_then (integer_value (operand (types (expression_at f n) s))) known_size ≡ array_size (optional_at f o) s
size_at f o n s e h = ap (λ t. array_size (Present t) s) (sym (expression_is (tree_at f n) h)) ∙ ap (λ x. array_size (optional_at f x) s) (sym e)

-- the expression of an enumerator
pub value_at : (f : Forest) (o : Option NodeId) (n : NodeId) (next : ℤ) (s : State) → o ≡ Some n → is_expression (tree_at f n) ≡ true
    → integer_value (operand (types (expression_at f n) s)) ≡ enumerator_value (optional_at f o) next s
value_at f o n next s e h = ap (λ t. enumerator_value (Present t) next s) (sym (expression_is (tree_at f n) h)) ∙ ap (λ x. enumerator_value (optional_at f x) next s) (sym e)
