-- Typing an initializer leaves as many scopes as there were.
use Rattle.std.proofs.Common.{◌≡◌, ℕ, Bool, true, false, Option, Some, None, length, refl, sym, ap, ◌∙◌}
use Rattle.std.specs.Prelude.{if◌then◌else◌, option_map, option_and_then}
use Rattle.pv_tree.specs.Syntax.{ExpressionTree, InitializerTree, Initial, Braces, OfExpression, OfDeclaration, OfDeclarator, OfSpecifier, OfInitializer, OfStatement, Trees, NoTrees, Then}
use Rattle.pv_tree.specs.Lines.{expression_line}
use Rattle.pv_types.specs.Ty.{Ty}
use Rattle.pv_types.specs.Layouts.{Part, layouts_of}
use Rattle.pv_types.specs.Sorts.{bare_type}
use Rattle.pv_typed.specs.TypedTree.{TypedTree}
use Rattle.pv_check.specs.State.{State}
use Rattle.pv_check.specs.State as check
use Rattle.pv_check.specs.Rows.{operand}
use Rattle.pv_check.specs.Typing.{types}
use Rattle.pv_check.proofs.Leaving.{Leaves}
use Rattle.pv_unit.specs.Rules.{Rules, After}
use Rattle.pv_unit.specs.Parts.{part_at, can_be_initialized}
use Rattle.pv_unit.specs.Initializers.{Stores, Shape, Fill, Single, Zero, Each, Wrong, shape_of, stores_of_shape, filled_type, characters, single_store, store_of_value, then_part, Given, each_initialized, initialized_object, given_to, whole_object}
use Rattle.pv_unit.specs.InitializerParts.{is_allowed, as_constant, unqualified_part, zero_leaf, is_braced}
use Rattle.pv_unit.specs.Initializers as init
use Rattle.pv_unit.specs.ValueRules.{values, to_initializers, to_expressions, typed_initializer}
use Rattle.pv_unit.proofs.Values.{value_leaves}

-- where there is an answer, there are n scopes behind it
record Deep {A : Type 0} (n : ℕ) (o : Option (After State A)) : Type 0 where
  pub held : (a : After State A) → o ≡ Some a → length a.state.scopes ≡ n

none_deep : {A : Type 0} (n : ℕ) → Deep {A = A} n None
none_deep n = record { held = λ a e. absurd cc }

some_deep : {A : Type 0} (n : ℕ) (x : A) (s : State) → length s.scopes ≡ n → Deep n (Some (record { value = x; state = s }))
some_deep {A} n x s h = record { held = λ a e. same a e }
  where
    same : (a : After State A) → Some (record { value = x; state = s }) ≡ Some a → length a.state.scopes ≡ n
    same a e = let f : record { value = x; state = s } ≡ a = cc in sym (ap (λ (y : After State A). length y.state.scopes) f) ∙ h

then_deep : {A B : Type 0} (n : ℕ) (o : Option (After State A)) (f : After State A → Option (After State B)) → Deep n o → ((a : After State A) → length a.state.scopes ≡ n → Deep n (f a)) → Deep n (option_and_then f o)
then_deep n None f h k = none_deep n
then_deep n (Some a) f h k = k a (h.held a refl)

value_then : {A B : Type 0} (n : ℕ) (o : Option A) (f : A → Option (After State B)) → ((a : A) → Deep n (f a)) → Deep n (option_and_then f o)
value_then n None f k = none_deep n
value_then n (Some a) f k = k a

map_deep : {A B : Type 0} (n : ℕ) (o : Option (After State A)) (f : After State A → After State B) → Deep n o → ((a : After State A) → length a.state.scopes ≡ n → length (f a).state.scopes ≡ n) → Deep n (option_map f o)
map_deep n None f h k = none_deep n
map_deep n (Some a) f h k = some_deep n (f a).value (f a).state (k a (h.held a refl))

value_map : {A B : Type 0} (n : ℕ) (o : Option A) (f : A → After State B) → ((a : A) → length (f a).state.scopes ≡ n) → Deep n (option_map f o)
value_map n None f k = none_deep n
value_map n (Some a) f k = some_deep n (f a).value (f a).state (k a)

if_deep : {A : Type 0} (n : ℕ) (b : Bool) (o : Option (After State A)) → Deep n o → Deep n (if b then o else None)
if_deep n true o h = h
if_deep n false o h = none_deep n

-- ---- the stores of a shape

-- what the rules do to scopes
record Deepens (r : Rules State) : Type 0 where
  pub operand : (a : ExpressionTree) (n : ℕ) (s : State) → length s.scopes ≡ n → Deep n (r.operand a s)
  pub string : (line first more n : ℕ) (s : State) → length s.scopes ≡ n → length (r.string line first more s).state.scopes ≡ n

constant_deep : (r : Rules State) (lasting : Bool) (p : Part) (line : ℕ) (s : State) (e : TypedTree) (n : ℕ) → length s.scopes ≡ n → Deep n (as_constant r lasting p line s e)
constant_deep r lasting p line s e n h = if_deep n (is_allowed r lasting s e) _ (some_deep n _ s h)

single_deep : (r : Rules State) (d : Deepens r) (lasting : Bool) (p : Part) (a : ExpressionTree) (n : ℕ) (s : State) → length s.scopes ≡ n → Deep n (single_store r lasting p a s)
single_deep r d lasting p a n s h =
    then_deep n (r.operand a s) (store_of_value r lasting p (expression_line a)) (d.operand a n s h)
    (λ x k. value_then n (r.assigned x.state (bare_type p.t) x.value) (as_constant r lasting (unqualified_part p) (expression_line a) x.state)
    (λ e. constant_deep r lasting (unqualified_part p) (expression_line a) x.state e n k))

formed_deep : (r : Rules State) (d : Deepens r) (lasting : Bool) (p : Part) (n : ℕ) (s : State) (each : Option (After State Stores)) (x : Shape) → length s.scopes ≡ n → Deep n each → Deep n (stores_of_shape r lasting p s each x)
formed_deep r d lasting p n s each (Fill line first more) h k =
    value_map n (filled_type (bare_type p.t) (length (r.string line first more s).value.characters)) (characters p line (r.string line first more s)) (λ t. d.string line first more n s h)
formed_deep r d lasting p n s each (Single a) h k = single_deep r d lasting p a n s h
formed_deep r d lasting p n s each (Zero a) h k = value_then n (zero_leaf (r.completed s) p) (λ leaf. single_store r lasting leaf a s) (λ leaf. single_deep r d lasting leaf a n s h)
formed_deep r d lasting p n s each Each h k = k
formed_deep r d lasting p n s each Wrong h k = none_deep n

abbrev next : Rules State → Bool → Part → InitializerTree → After State Stores → Option (After State Stores)
next r lasting p i done = option_and_then (λ q. option_map (then_part done.value) (init.initializer_stores r lasting q i done.state)) (part_at (r.completed done.state) p done.value.count)

mutual
  tree_deep : (r : Rules State) (d : Deepens r) (lasting : Bool) (i : InitializerTree) (p : Part) (n : ℕ) (s : State) → length s.scopes ≡ n → Deep n (init.initializer_stores r lasting p i s)
  tree_deep r d lasting (Initial line a) p n s h = formed_deep r d lasting p n s None (shape_of (r.completed s) p (Initial line a)) h (none_deep n)
  tree_deep r d lasting (Braces line inits comma) p n s h =
      formed_deep r d lasting p n s (each_initialized r lasting p inits s) (shape_of (r.completed s) p (Braces line inits comma)) h (each_deep r d lasting inits p n s h)

  each_deep : (r : Rules State) (d : Deepens r) (lasting : Bool) (ts : Trees) (p : Part) (n : ℕ) (s : State) → length s.scopes ≡ n → Deep n (each_initialized r lasting p ts s)
  each_deep r d lasting NoTrees p n s h = some_deep n _ s h
  each_deep r d lasting (Then before (OfInitializer i)) p n s h =
      then_deep n (each_initialized r lasting p before s) (next r lasting p i) (each_deep r d lasting before p n s h)
      (λ done k. value_then n (part_at (r.completed done.state) p done.value.count) (λ q. option_map (then_part done.value) (init.initializer_stores r lasting q i done.state))
      (λ q. map_deep n (init.initializer_stores r lasting q i done.state) (then_part done.value) (tree_deep r d lasting i q n done.state k) (λ a j. j)))
  each_deep r d lasting (Then before (OfExpression x)) p n s h = none_deep n
  each_deep r d lasting (Then before (OfDeclaration x)) p n s h = none_deep n
  each_deep r d lasting (Then before (OfDeclarator x)) p n s h = none_deep n
  each_deep r d lasting (Then before (OfSpecifier x)) p n s h = none_deep n
  each_deep r d lasting (Then before (OfStatement x)) p n s h = none_deep n

-- ---- the rules of values

lifted_deep : {A : Type 0} (n : ℕ) (o : Option (check.After A)) → Leaves n o → Deep n (to_initializers o)
lifted_deep n None h = none_deep n
lifted_deep n (Some a) h = some_deep n a.value a.state (h.held a refl)

values_deepen : Deepens values
unfolding values
values_deepen = record {
  operand = λ a n s h. lifted_deep n (operand (types a s)) (value_leaves a n s h);
  string = λ line first more n s h. h;
}

lowered_leaves : {A : Type 0} (n : ℕ) (o : Option (After State A)) → Deep n o → Leaves n (to_expressions o)
lowered_leaves n None h = record { held = λ a e. absurd cc }
lowered_leaves {A} n (Some x) h = record { held = λ a e. same a e }
  where
    same : (a : check.After A) → to_expressions (Some x) ≡ Some a → length a.state.scopes ≡ n
    same a e = let f : record { value = x.value; state = x.state } ≡ a = cc in sym (ap (λ (y : check.After A). length y.state.scopes) f) ∙ h.held x refl

object_deep : (r : Rules State) (d : Deepens r) (lasting : Bool) (t : Ty) (i : InitializerTree) (n : ℕ) (s : State) → length s.scopes ≡ n → Deep n (initialized_object r lasting t i s)
unfolding initialized_object
object_deep r d lasting t i n s h =
    if_deep n (can_be_initialized (layouts_of (r.completed s)) t) _
    (map_deep n (init.initializer_stores r lasting (whole_object t) i s) (given_to t (is_braced (r.completed s) (whole_object t) i)) (tree_deep r d lasting i (whole_object t) n s h) (λ a j. j))

pub initialized_leaves : (lasting : Bool) (t : Ty) (i : InitializerTree) (n : ℕ) (s : State) → length s.scopes ≡ n → Leaves n (typed_initializer lasting t i s)
initialized_leaves lasting t i n s h = lowered_leaves n (initialized_object values lasting t i s) (object_deep values values_deepen lasting t i n s h)
