-- Typing an initializer leaves the names of the unit as they were, and each new object has the name of an identifier (C17 6.4.2.1, 6.7.9).
use Rattle.std.proofs.Common.{◌≡◌, ℕ, Bool, true, false, Option, Some, None, List, length, refl, subst}
use Rattle.std.specs.Prelude.{if◌then◌else◌, option_map, option_and_then}
use Rattle.pv_tree.specs.Syntax.{ExpressionTree, InitializerTree, Initial, Braces, OfExpression, OfDeclaration, OfDeclarator, OfSpecifier, OfInitializer, OfStatement, Trees, NoTrees, Then}
use Rattle.pv_tree.specs.Lines.{expression_line}
use Rattle.pv_types.specs.Ty.{Ty}
use Rattle.pv_types.specs.Layouts.{Part, layouts_of}
use Rattle.pv_types.specs.Sorts.{bare_type}
use Rattle.pv_typed.specs.TypedTree.{TypedTree}
use Rattle.pv_check.specs.State.{State}
use Rattle.pv_check.specs.State as check
use Rattle.pv_check.specs.Rows.{operand}
use Rattle.pv_check.specs.Typing.{types}
use Rattle.pv_unit.specs.Rules.{Rules, After}
use Rattle.pv_unit.specs.Parts.{part_at, can_be_initialized}
use Rattle.pv_unit.specs.Initializers.{Stores, Shape, Fill, Single, Zero, Each, Wrong, shape_of, stores_of_shape, filled_type, characters, single_store, store_of_value, then_part, each_initialized, initialized_object, given_to, whole_object}
use Rattle.pv_unit.specs.InitializerParts.{is_allowed, as_constant, unqualified_part, zero_leaf, is_braced}
use Rattle.pv_unit.specs.Initializers as init
use Rattle.pv_unit.specs.ValueRules.{values, to_initializers, to_expressions, typed_initializer}
use Rattle.pv_unit.proofs.Named.{AreNamed, Keeps, operand_keeps, types_keep}

-- where there is an answer, the unit is named so behind it
record Holds {A : Type 0} (n : List (List ℕ)) (o : Option (After State A)) : Type 0 where
  pub held : (a : After State A) → o ≡ Some a → AreNamed n a.state.unit

none_holds : {A : Type 0} (n : List (List ℕ)) → Holds {A = A} n None
none_holds n = record { held = λ a e. absurd cc }

some_holds : {A : Type 0} (n : List (List ℕ)) (x : A) (s : State) → AreNamed n s.unit → Holds n (Some (record { value = x; state = s }))
some_holds {A} n x s h = record { held = λ a e. same a e }
  where
    same : (a : After State A) → Some (record { value = x; state = s }) ≡ Some a → AreNamed n a.state.unit
    same a e = let f : record { value = x; state = s } ≡ a = cc in subst (λ (y : After State A). AreNamed n y.state.unit) f h

then_holds : {A B : Type 0} (n : List (List ℕ)) (o : Option (After State A)) (f : After State A → Option (After State B)) → Holds n o → ((a : After State A) → AreNamed n a.state.unit → Holds n (f a)) → Holds n (option_and_then f o)
then_holds n None f h k = none_holds n
then_holds n (Some a) f h k = k a (h.held a refl)

value_then : {A B : Type 0} (n : List (List ℕ)) (o : Option A) (f : A → Option (After State B)) → ((a : A) → Holds n (f a)) → Holds n (option_and_then f o)
value_then n None f k = none_holds n
value_then n (Some a) f k = k a

map_holds : {A B : Type 0} (n : List (List ℕ)) (o : Option (After State A)) (f : After State A → After State B) → Holds n o → ((a : After State A) → AreNamed n a.state.unit → AreNamed n (f a).state.unit) → Holds n (option_map f o)
map_holds n None f h k = none_holds n
map_holds n (Some a) f h k = some_holds n (f a).value (f a).state (k a (h.held a refl))

value_map : {A B : Type 0} (n : List (List ℕ)) (o : Option A) (f : A → After State B) → ((a : A) → AreNamed n (f a).state.unit) → Holds n (option_map f o)
value_map n None f k = none_holds n
value_map n (Some a) f k = some_holds n (f a).value (f a).state (k a)

if_holds : {A : Type 0} (n : List (List ℕ)) (b : Bool) (o : Option (After State A)) → Holds n o → Holds n (if b then o else None)
if_holds n true o h = h
if_holds n false o h = none_holds n

-- ---- the stores of a shape

-- the rules leave it so
record AllHold (r : Rules State) : Type 0 where
  pub operand : (a : ExpressionTree) (n : List (List ℕ)) (s : State) → AreNamed n s.unit → Holds n (r.operand a s)
  pub string : (line first more : ℕ) (n : List (List ℕ)) (s : State) → AreNamed n s.unit → AreNamed n (r.string line first more s).state.unit

constant_holds : (r : Rules State) (lasting : Bool) (p : Part) (line : ℕ) (s : State) (e : TypedTree) (n : List (List ℕ)) → AreNamed n s.unit → Holds n (as_constant r lasting p line s e)
constant_holds r lasting p line s e n h = if_holds n (is_allowed r lasting s e) _ (some_holds n _ s h)

single_holds : (r : Rules State) (d : AllHold r) (lasting : Bool) (p : Part) (a : ExpressionTree) (n : List (List ℕ)) (s : State) → AreNamed n s.unit → Holds n (single_store r lasting p a s)
single_holds r d lasting p a n s h =
    then_holds n (r.operand a s) (store_of_value r lasting p (expression_line a)) (d.operand a n s h)
    (λ x k. value_then n (r.assigned x.state (bare_type p.t) x.value) (as_constant r lasting (unqualified_part p) (expression_line a) x.state)
    (λ e. constant_holds r lasting (unqualified_part p) (expression_line a) x.state e n k))

formed_holds : (r : Rules State) (d : AllHold r) (lasting : Bool) (p : Part) (n : List (List ℕ)) (s : State) (each : Option (After State Stores)) (x : Shape) → AreNamed n s.unit → Holds n each → Holds n (stores_of_shape r lasting p s each x)
formed_holds r d lasting p n s each (Fill line first more) h k =
    value_map n (filled_type (bare_type p.t) (length (r.string line first more s).value.characters)) (characters p line (r.string line first more s)) (λ t. d.string line first more n s h)
formed_holds r d lasting p n s each (Single a) h k = single_holds r d lasting p a n s h
formed_holds r d lasting p n s each (Zero a) h k = value_then n (zero_leaf (r.completed s) p) (λ leaf. single_store r lasting leaf a s) (λ leaf. single_holds r d lasting leaf a n s h)
formed_holds r d lasting p n s each Each h k = k
formed_holds r d lasting p n s each Wrong h k = none_holds n

abbrev next : Rules State → Bool → Part → InitializerTree → After State Stores → Option (After State Stores)
next r lasting p i done = option_and_then (λ q. option_map (then_part done.value) (init.initializer_stores r lasting q i done.state)) (part_at (r.completed done.state) p done.value.count)

mutual
  tree_holds : (r : Rules State) (d : AllHold r) (lasting : Bool) (i : InitializerTree) (p : Part) (n : List (List ℕ)) (s : State) → AreNamed n s.unit → Holds n (init.initializer_stores r lasting p i s)
  tree_holds r d lasting (Initial line a) p n s h = formed_holds r d lasting p n s None (shape_of (r.completed s) p (Initial line a)) h (none_holds n)
  tree_holds r d lasting (Braces line inits comma) p n s h =
      formed_holds r d lasting p n s (each_initialized r lasting p inits s) (shape_of (r.completed s) p (Braces line inits comma)) h (each_holds r d lasting inits p n s h)

  each_holds : (r : Rules State) (d : AllHold r) (lasting : Bool) (ts : Trees) (p : Part) (n : List (List ℕ)) (s : State) → AreNamed n s.unit → Holds n (each_initialized r lasting p ts s)
  each_holds r d lasting NoTrees p n s h = some_holds n _ s h
  each_holds r d lasting (Then before (OfInitializer i)) p n s h =
      then_holds n (each_initialized r lasting p before s) (next r lasting p i) (each_holds r d lasting before p n s h)
      (λ done k. value_then n (part_at (r.completed done.state) p done.value.count) (λ q. option_map (then_part done.value) (init.initializer_stores r lasting q i done.state))
      (λ q. map_holds n (init.initializer_stores r lasting q i done.state) (then_part done.value) (tree_holds r d lasting i q n done.state k) (λ a j. j)))
  each_holds r d lasting (Then before (OfExpression x)) p n s h = none_holds n
  each_holds r d lasting (Then before (OfDeclaration x)) p n s h = none_holds n
  each_holds r d lasting (Then before (OfDeclarator x)) p n s h = none_holds n
  each_holds r d lasting (Then before (OfSpecifier x)) p n s h = none_holds n
  each_holds r d lasting (Then before (OfStatement x)) p n s h = none_holds n

-- ---- the rules of values

lifted_holds : {A : Type 0} (n : List (List ℕ)) (o : Option (check.After A)) → Keeps n o → Holds n (to_initializers o)
lifted_holds n None h = none_holds n
lifted_holds n (Some a) h = some_holds n a.value a.state (h.held a refl)

values_hold : AllHold values
unfolding values
values_hold = record {
  operand = λ a n s h. lifted_holds n (operand (types a s)) (operand_keeps n (types a s) (types_keep a n s h));
  string = λ line first more n s h. h;
}

lowered_keeps : {A : Type 0} (n : List (List ℕ)) (o : Option (After State A)) → Holds n o → Keeps n (to_expressions o)
lowered_keeps n None h = record { held = λ a e. absurd cc }
lowered_keeps {A} n (Some x) h = record { held = λ a e. same a e }
  where
    same : (a : check.After A) → to_expressions (Some x) ≡ Some a → AreNamed n a.state.unit
    same a e = let f : record { value = x.value; state = x.state } ≡ a = cc in subst (λ (y : check.After A). AreNamed n y.state.unit) f (h.held x refl)

object_holds : (r : Rules State) (d : AllHold r) (lasting : Bool) (t : Ty) (i : InitializerTree) (n : List (List ℕ)) (s : State) → AreNamed n s.unit → Holds n (initialized_object r lasting t i s)
unfolding initialized_object
object_holds r d lasting t i n s h =
    if_holds n (can_be_initialized (layouts_of (r.completed s)) t) _
    (map_holds n (init.initializer_stores r lasting (whole_object t) i s) (given_to t (is_braced (r.completed s) (whole_object t) i)) (tree_holds r d lasting i (whole_object t) n s h) (λ a j. j))

pub initialized_keeps : (lasting : Bool) (t : Ty) (i : InitializerTree) (n : List (List ℕ)) (s : State) → AreNamed n s.unit → Keeps n (typed_initializer lasting t i s)
initialized_keeps lasting t i n s h = lowered_keeps n (initialized_object values lasting t i s) (object_holds values values_hold lasting t i n s h)
