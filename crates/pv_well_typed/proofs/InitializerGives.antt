-- Typing of initializers (C17 6.7.9), by the walk over their trees: each store lies within the object, and is a value of its type; of an object
-- with static storage it is a constant.
use Rattle.std.proofs.Common.{◌≡◌, ℕ, ◌<◌, ◌+◌, ◌*◌, ◌≤◌, ◌^◌, Bool, true, false, Option, Some, None, is_some, List, [], ◌∷◌, ◌++◌, length, nat_le, option_map, refl, sym, ap, subst, ◌∙◌, arith, ◌⊎◌, inl, inr, append-nil, nat_lt}
use Rattle.std.proofs.lemmas.Bool.Decides.{nat_tests}
use Rattle.std.specs.Prelude.{if◌then◌else◌, option_and_then}
use Rattle.pv_types.specs.Sorts.{bare_type, is_scalar}
use Rattle.pv_tree.specs.Lines.{expression_line}
use Rattle.pv_tree.specs.Syntax.{ExpressionTree, Text, InitializerTree, Initial, Braces, OfExpression, OfDeclaration, OfDeclarator, OfSpecifier, OfInitializer, OfStatement, Trees, NoTrees, Then}
use Rattle.pv_types.specs.Layouts.{Entry, Layout, Part, Completed, up_to, layout_in, is_complete_in}
use Rattle.pv_types.specs.Ty.{Ty, VoidTy, IntTy, PointerTo, ArrayOf, StructTag, UnionTag, FunctionTy, ConstOf}
use Rattle.pv_typed.specs.Addresses.{size_in, constant_of}
use Rattle.pv_typed.specs.AddressParts.{or_zero}
use Rattle.pv_typed.specs.declared.values.Const.{Const}
use Rattle.pv_typed.specs.Known.{Each}
use Rattle.pv_typed.specs.Places.{Completes}
use Rattle.pv_typed.specs.TypedTree.{TypedTree, type_of}
use Rattle.pv_typed.specs.TypedUnits.{WholeUnit, TypedObject, Literal, Store, StoredValue, ValueOf, layouts, object_at, literal_at}
use Rattle.pv_typed.specs.UnitParts.{no_object, no_literal}
use Rattle.pv_typed.proofs.Each.{each_append, each_weaker}
use Rattle.pv_typed.proofs.Persisting.{constant_kept}
use Rattle.pv_check.specs.StringLiterals.{bytes_of_text}
use Rattle.pv_check.specs.Rows.{operand}
use Rattle.pv_check.specs.State.{State, Scope, Meaning, ObjectName, FunctionName, TypedefOf, ConstantOf, env}
use Rattle.pv_check.specs.State as check
use Rattle.pv_check.specs.Typing.{types}
use Rattle.pv_check.specs.Values.{as_if_assigned}
use Rattle.pv_unit.specs.Initializers as init
use Rattle.pv_unit.specs.InitializerParts as parts
use Rattle.pv_unit.specs.Initializers.{Stores, Shape, Fill, Single, Zero, Wrong, filling, single_shape, list_shape, only_expression, shape_of, one, store_of_value, single_store, has_room, filled_type, characters, filled_with, stores_of_shape, then_part, Given, each_initialized, initialized_object, given_to, whole_object}
use Rattle.pv_unit.specs.InitializerParts.{or_shape, expression_shape, begins_deep, is_allowed, as_constant, zero_leaf, is_braced}
use Rattle.pv_unit.specs.Parts.{part_at, is_text, text_layer, with_size, can_be_initialized}
use Rattle.pv_unit.specs.Rules.{After}
use Rattle.pv_unit.specs.ValueRules.{to_initializers, to_expressions, filling_text, values, typed_initializer}
use Rattle.pv_guards.proofs.Numbers.{both}
use Rattle.pv_guards.specs.Typed.{IsIn, IsValueType}
use Rattle.pv_guards.specs.TypedStatements.{IsInitializer, IsConstant, IsConstantOf}
use Rattle.pv_well_typed.specs.Characters.{HasCharacters}
use Rattle.pv_well_typed.proofs.SourceCharacters.{InitializerCharacters, TreesCharacters}
use Rattle.pv_well_typed.specs.Later.{IsFinished, Later}
use Rattle.pv_well_typed.specs.Proper.{IsValueOrVoid, IsProper}
use Rattle.pv_well_typed.specs.ProperStates.{IsProperState, IsVisible, AreVisible}
use Rattle.pv_well_typed.proofs.Types.{plain-bare, complete-later, layout-later, proper-bare}
use Rattle.pv_well_typed.proofs.Operands.{IsOperand, has-type, some-same}
use Rattle.pv_well_typed.proofs.Conversions.{IsAssigned, assigned-row}
use Rattle.pv_well_typed.proofs.Changes.{literal-later}
use Rattle.pv_well_typed.proofs.PrimaryRows.{beyond-at}
use Rattle.pv_well_typed.proofs.Moving.{IsText, same-outer, Orderly, Grown, HasMade, none-made, grown-before, Moves, Gives, same-moves, gives-none, gives-some, gives-then, gives-weaker}
use Rattle.pv_well_typed.proofs.Literals.{written-orderly, text-bytes}
use Rattle.pv_well_typed.proofs.Walk.{U}
use Rattle.pv_well_typed.proofs.StatementRows.{Here, Behind, valued-everywhere}
use Rattle.pv_well_typed.proofs.BlockRows.{GivenIn}
use Rattle.pv_well_typed.proofs.PartRows.{can-complete, can-bare, can-grown, sized-size, sized-more, character-byte, IsPart, part-at-found, zero-found}
use Rattle.pv_well_typed.proofs.ConstantRows.{constant-good}

-- ---- answers of initializers, as those of expressions

abbrev low : {A : Type 0} → After State A → check.After A
low x = record { value = x.value; state = x.state }

-- the stores of no initializer
abbrev nothing : State → After State Stores
nothing s = record { value = record { stores = []; count = 0 }; state = s }

abbrev high : {A : Type 0} → check.After A → After State A
high x = record { value = x.value; state = x.state }

module _ (v : WholeUnit) where
  then-gives : {A B : Type 0} (P : Type 0) (s : State) (Q : check.After A → Type 0) (R : check.After B → Type 0) (o : Option (After State A)) (f : After State A → Option (After State B)) → Gives U v [] P s Q (to_expressions o)
      → ((a : After State A) → Moves U v [] s a.state → Gives U v [] (P × Q (low a)) a.state R (to_expressions (f a))) → Gives U v [] P s R (to_expressions (option_and_then f o))
  then-gives P s Q R None f h k = gives-none U v [] P s R
  then-gives P s Q R (Some x) f h k = gives-then U v [] P s Q R (Some (low x)) (λ b. to_expressions (f (high b))) h (λ b m. k (high b) m)

  value-gives : {A B : Type 0} (P : Type 0) (s : State) (R : check.After B → Type 0) (o : Option A) (f : A → Option (After State B)) → ((x : A) → o ≡ Some x → Gives U v [] P s R (to_expressions (f x)))
      → Gives U v [] P s R (to_expressions (option_and_then f o))
  value-gives P s R None f h = gives-none U v [] P s R
  value-gives P s R (Some x) f h = h x refl

  map-gives : {A B : Type 0} (P : Type 0) (s : State) (Q : check.After A → Type 0) (R : check.After B → Type 0) (o : Option (After State A)) (g : After State A → After State B) → Gives U v [] P s Q (to_expressions o)
      → ((a : After State A) → Moves U v [] s a.state → Gives U v [] (P × Q (low a)) a.state R (Some (low (g a)))) → Gives U v [] P s R (to_expressions (option_map g o))
  map-gives P s Q R None g h k = gives-none U v [] P s R
  map-gives P s Q R (Some x) g h k = gives-then U v [] P s Q R (Some (low x)) (λ b. Some (low (g (high b)))) h (λ b m. k (high b) m)

  lifted-gives : {A : Type 0} (P : Type 0) (s : State) (Q : check.After A → Type 0) (o : Option (check.After A)) → Gives U v [] P s Q o → Gives U v [] P s Q (to_expressions (to_initializers o))
  lifted-gives P s Q None h = h
  lifted-gives P s Q (Some x) h = h

-- ---- 6.2.1p4: the objects that names stand for

abbrev objects-named : List (ℕ × Meaning) → List ℕ
objects-named [] = []
objects-named ((n, ObjectName o) ∷ es) = o ∷ objects-named es
objects-named (_ ∷ es) = objects-named es

more-named : (v : WholeUnit) (os ps : List ℕ) (es : List (ℕ × Meaning)) → ((o : ℕ) → IsIn o os → IsIn o ps) → Each (λ (e : ℕ × Meaning). IsVisible v os e.1) es → Each (λ (e : ℕ × Meaning). IsVisible v ps e.1) es
more-named v os ps es f h = each_weaker (λ (e : ℕ × Meaning). IsVisible v os e.1) (λ (e : ℕ × Meaning). IsVisible v ps e.1) (λ (e : ℕ × Meaning) q. one e.1 q) es h
  where
    one : (m : Meaning) → IsVisible v os m → IsVisible v ps m
    one (ObjectName o) q = λ e. f o (q e)
    one (FunctionName g) q = q
    one (TypedefOf t) q = q
    one (ConstantOf k) q = q

all-named : (v : WholeUnit) (es : List (ℕ × Meaning)) → Each (λ (e : ℕ × Meaning). IsVisible v (objects-named es) e.1) es
all-named v [] = tt
all-named v ((n, ObjectName o) ∷ es) = (λ e. inl refl, more-named v (objects-named es) (o ∷ objects-named es) es (λ i h. inr h) (all-named v es))
all-named v ((n, FunctionName f) ∷ es) = (tt, all-named v es)
all-named v ((n, TypedefOf t) ∷ es) = (tt, all-named v es)
all-named v ((n, ConstantOf k) ∷ es) = (tt, all-named v es)

in-left : (xs ys : List ℕ) (n : ℕ) → IsIn n xs → IsIn n (xs ++ ys)
in-left [] ys n h = absurd h
in-left (x ∷ xs) ys n (inl e) = inl e
in-left (x ∷ xs) ys n (inr h) = inr (in-left xs ys n h)

in-right : (xs ys : List ℕ) (n : ℕ) → IsIn n ys → IsIn n (xs ++ ys)
in-right [] ys n h = h
in-right (x ∷ xs) ys n h = inr (in-right xs ys n h)

abbrev objects-in : List Scope → List ℕ
objects-in [] = []
objects-in (x ∷ xs) = objects-named x.names ++ objects-in xs

more-visible : (v : WholeUnit) (os ps : List ℕ) (xs : List Scope) → ((o : ℕ) → IsIn o os → IsIn o ps) → AreVisible v os xs → AreVisible v ps xs
more-visible v os ps [] f h = tt
more-visible v os ps (x ∷ xs) f h = (more-named v os ps x.names f h.0, more-visible v os ps xs f h.1)

all-visible : (v : WholeUnit) (xs : List Scope) → AreVisible v (objects-in xs) xs
all-visible v [] = tt
all-visible v (x ∷ xs) = (
  more-named v (objects-named x.names) (objects-named x.names ++ objects-in xs) x.names (λ o h. in-left (objects-named x.names) (objects-in xs) o h) (all-named v x.names),
  more-visible v (objects-in xs) (objects-named x.names ++ objects-in xs) xs (λ o h. in-right (objects-named x.names) (objects-in xs) o h) (all-visible v xs),
)

-- some objects are always those that names stand for
some-here : (v : WholeUnit) (s : State) → s.unevaluated ≡ false → Here v (objects-in s.scopes) s
some-here v s ev = record { evaluated = ev; visible = all-visible v s.scopes }

-- ---- 6.2.7p4: constants stay what they are

later-completes : (v : WholeUnit) (s : State) → Later s v → Grown v s → Completes s.unit v
later-completes v s l grown = record {
  lasting = λ o e. lasts o e (either o (length s.unit.objects));
  bounds = λ o. bounded o (either o (length s.unit.objects));
  literals = λ k. written k (either k (length s.unit.literals));
  sizes = λ t n e. sized-kept t n (is_complete_in (env s) t) refl e;
}
  where
    either : (o n : ℕ) → (o < n) ⊎ (n ≤ o)
    either o n = grind arith

    lasts : (o : ℕ) → (object_at s.unit o).lasting ≡ true → (o < length s.unit.objects) ⊎ (length s.unit.objects ≤ o) → (object_at v o).lasting ≡ true
    lasts o e (inl lt) = l.unit.lasting o lt ∙ e
    lasts o e (inr le) = let both : false ≡ true = sym (ap (λ (x : TypedObject). x.lasting) (beyond-at no_object s.unit.objects o le)) ∙ e in absurd cc

    bounded : (o : ℕ) → (o < length s.unit.objects) ⊎ (length s.unit.objects ≤ o) → or_zero (size_in s.unit (object_at s.unit o).t) ≤ or_zero (size_in v (object_at v o).t)
    bounded o (inl lt) = grown o lt
    bounded o (inr le) = subst (λ (x : TypedObject). or_zero (size_in s.unit x.t) ≤ or_zero (size_in v (object_at v o).t)) (sym (beyond-at no_object s.unit.objects o le)) (omega arith)

    written : (k : ℕ) → (k < length s.unit.literals) ⊎ (length s.unit.literals ≤ k) → length (literal_at s.unit k).bytes ≤ length (literal_at v k).bytes
    written k (inl lt) = let same = ap (λ (x : Literal). length x.bytes) (l.unit.literals k lt) in omega (arith, same)
    written k (inr le) = subst (λ (x : Literal). length x.bytes ≤ length (literal_at v k).bytes) (sym (beyond-at no_literal s.unit.literals k le)) (omega arith)

    sized-kept : (t : Ty) (n : ℕ) (b : Bool) → is_complete_in (env s) t ≡ b → (if b then up_to (layout_in (env s) t).size else None) ≡ Some n → size_in v t ≡ Some n
    sized-kept t n true c e =
        ap (λ d. if d then up_to (layout_in (layouts v) t).size else None) (complete-later (env s) v l.unit.layouts t c) ∙ ap (λ (x : Layout). up_to x.size) (layout-later (env s) v l.unit.layouts t c) ∙ e
    sized-kept t n false c e = absurd cc

-- ---- 6.7.9: what is stored in a part of an object

module _ (v : WholeUnit) (done : IsFinished v) where
  abbrev size : Ty → ℕ
  size t = (layout_in (layouts v) t).size

  -- the end of the part, where so many of its parts have initializers (6.7.9p22)
  abbrev End : Part → ℕ → ℕ
  End p n = p.offset + size (with_size (bare_type p.t) n)

  abbrev AreBelow : (end : ℕ) → (Ty → StoredValue → Type 0) → List Store → Type 0
  AreBelow end R xs = Each (λ (x : Store). (x.offset + size x.t ≤ end) × R x.t x.what) xs

  below-more : (m n : ℕ) (R : Ty → StoredValue → Type 0) (xs : List Store) → m ≤ n → AreBelow m R xs → AreBelow n R xs
  below-more m n R xs le h = each_weaker (λ (x : Store). (x.offset + size x.t ≤ m) × R x.t x.what) (λ (x : Store). (x.offset + size x.t ≤ n) × R x.t x.what) (λ (x : Store) q. (let z = q.0 in omega (arith, z, le), q.1)) xs h

  pub record StoredIn (lasting : Bool) (p : Part) (s : State) (f : check.After Stores) : Type 0 where
    pub whole : IsProper v (with_size (bare_type p.t) f.value.count)
    pub stored : (os : List ℕ) → Here v os s → AreBelow (End p f.value.count) (λ t x. IsInitializer v os t x) f.value.stores × Here v os f.state
    pub constant : Grown v f.state → lasting ≡ true → AreBelow (End p f.value.count) (λ t x. IsConstant v t x) f.value.stores

  -- the same of one expression
  abbrev OneIn : (lasting : Bool) → Part → State → check.After Stores → Type 0
  OneIn lasting p s f = StoredIn lasting p s f × (f.value.count ≡ 1)

  -- a part that can be initialized (6.7.9p3)
  abbrev MayFill : Part → State → Type 0
  MayFill p s = IsProper v p.t × (can_be_initialized (env s) p.t ≡ true)

  -- ---- one expression (6.7.9p11, p13)

  value-sized : (t : Ty) (n : ℕ) → IsValueType (bare_type t) → with_size t n ≡ t
  value-sized VoidTy n h = refl
  value-sized (IntTy k) n h = refl
  value-sized (PointerTo t) n h = refl
  value-sized (ArrayOf t m) n h = absurd h
  value-sized (StructTag k) n h = refl
  value-sized (UnionTag k) n h = refl
  value-sized (FunctionTy t ts c) n h = refl
  value-sized (ConstOf t) n h = refl

  -- the value that is stored
  abbrev IsAssignedTo : Part → List ℕ → TypedTree → Type 0
  IsAssignedTo p os e = IsAssigned U v os (bare_type p.t) e

  assigned-initializer : (os : List ℕ) (t : Ty) (e : TypedTree) → IsAssigned U v os t e → IsInitializer v os t (ValueOf e)
  assigned-initializer os t e h = (h.converted.typed tt, has-type U v os (bare_type t) e h.converted, h.value)

  allowed-constant : (s : State) (e : TypedTree) (lasting : Bool) → is_allowed values lasting s e ≡ true → lasting ≡ true → (c : Const) × (constant_of s.unit e ≡ Some c)
  unfolding values
  allowed-constant s e true h q = some-there (constant_of s.unit e) h
    where
      some-there : (o : Option Const) → is_some o ≡ true → (c : Const) × (o ≡ Some c)
      some-there None f = absurd cc
      some-there (Some c) f = (c, refl)
  allowed-constant s e false h q = absurd cc

  assigned-constant : (s z : State) (os : List ℕ) (t : Ty) (e : TypedTree) (c : Const) → Later z v → Grown v z → IsAssigned U v os t e → constant_of z.unit e ≡ Some c → IsConstant v t (ValueOf e)
  assigned-constant s z os t e c l g h q =
      let kept = constant_kept z.unit v (later-completes v z l g) e c q in
      let is : type_of e ≡ bare_type t = h.converted.is in
      let good = constant-good v os done e c (subst IsValueType (sym h.converted.is) h.value) (h.converted.typed tt) kept in
      (c, kept, good.0, subst (λ u. IsConstantOf c u) is good.1)

  constant-gives : (lasting : Bool) (p : Part) (a : ExpressionTree) (s : State) (x : After State TypedTree) (e : TypedTree) → s.unevaluated ≡ false → as_if_assigned (bare_type p.t) x.value ≡ Some e
      → Gives U v [] (IsProper v p.t × Behind v s (λ os y. IsOperand U v os y) (low x)) x.state (OneIn lasting p s) (to_expressions (as_constant values lasting (parts.unqualified_part p) (expression_line a) x.state e))
  constant-gives lasting p a s x e ev q = by (is_allowed values lasting x.state e) refl
    where
      by : (b : Bool) → is_allowed values lasting x.state e ≡ b
          → Gives U v [] (IsProper v p.t × Behind v s (λ os y. IsOperand U v os y) (low x)) x.state (OneIn lasting p s) (to_expressions (if b then Some (one (parts.unqualified_part p) (expression_line a) (ValueOf e) x.state) else None))
      by false f = gives-none U v [] _ x.state (OneIn lasting p s)
      by true f =
          gives-some U v [] (IsProper v p.t × Behind v s (λ os y. IsOperand U v os y) (low x)) x.state (OneIn lasting p s) (low (one (parts.unqualified_part p) (expression_line a) (ValueOf e) x.state)) (same-moves U v [] x.state)
          (λ l h g.
          let w : (os : List ℕ) → Here v os s → IsAssigned U v os (bare_type p.t) e = λ os here. assigned-row U v os (bare_type p.t) x.value (h.1 os here).0 e q in
          let z = some-here v s ev in
          let first = w (objects-in s.scopes) z in
          let same : with_size (bare_type p.t) 1 ≡ bare_type p.t = value-sized (bare_type p.t) 1 first.value in
          let end : size (with_size (bare_type p.t) 1) ≡ size (bare_type p.t) = ap size same in (
            g,
            (
              record {
                whole = subst (IsProper v) (sym same) (proper-bare v p.t h.0);
                stored = λ os here. (((omega (arith, end), assigned-initializer os (bare_type p.t) e (w os here)), tt), (h.1 os here).1);
                constant = λ k r.
                    let c = allowed-constant x.state e lasting f r in
                    ((omega (arith, end), assigned-constant s x.state (objects-in s.scopes) (bare_type p.t) e c.0 l k first c.1), tt);
              },
              refl,
            ),
            none-made v x.state x.state refl,
          ))

  single-gives : (lasting : Bool) (p : Part) (a : ExpressionTree) (s : State) → HasCharacters a → s.unevaluated ≡ false → Gives U v [] (IsProper v p.t) s (OneIn lasting p s) (to_expressions (single_store values lasting p a s))
  unfolding values
  single-gives lasting p a s c ev =
      then-gives v (IsProper v p.t) s (Behind v s (λ os y. IsOperand U v os y)) (OneIn lasting p s) (to_initializers (operand (types a s))) (store_of_value values lasting p (expression_line a))
      (lifted-gives v (IsProper v p.t) s (Behind v s (λ os y. IsOperand U v os y)) (operand (types a s))
      (gives-weaker U U U (IsProper v p.t) v [] s (Behind v s (λ os y. IsOperand U v os y)) (Behind v s (λ os y. IsOperand U v os y)) (operand (types a s)) (λ f. f) (λ h. tt) (λ y q. q) (valued-everywhere v done a c s)))
      (λ x m. value-gives v (IsProper v p.t × Behind v s (λ os y. IsOperand U v os y) (low x)) x.state (OneIn lasting p s) (as_if_assigned (bare_type p.t) x.value) (as_constant values lasting (parts.unqualified_part p) (expression_line a) x.state)
      (λ e q. constant-gives lasting p a s x e ev q))

  -- ---- string literals that fill an array (6.7.9p14)

  text-moves : (line : ℕ) (bytes : List ℕ) (s : State) → (Orderly s → IsText bytes) → Moves U v [] s (filling_text line bytes s).state
  text-moves line bytes s good = record {
    later = λ l. record { unit = literal-later v s.unit (record { bytes = bytes; line = line }) false l.unit; used = l.used };
    outer = same-outer s.scopes;
    grows = ([], sym (append-nil (env s)));
    names = λ f w ps h. h;
    evaluated = refl;
    functions = refl;
    spelled = refl;
    noted = (refl, refl);
    orderly = λ h. written-orderly line bytes s false good h;
    count = omega arith;
    older = λ o lt. refl;
  }

  text-proper : (line : ℕ) (bytes : List ℕ) (s : State) → IsProperState v s → IsProperState v (filling_text line bytes s).state
  text-proper line bytes s h = record { unit = record { objects = h.unit.objects; functions = h.unit.functions; completed = h.unit.completed }; some = h.some; scopes = h.scopes }

  -- 6.7.9p22: as many elements as characters
  filled-proper : (es : List Entry) (t : Ty) (n : ℕ) → IsProper v t → text_layer t ≡ true → has_room t n ≡ true → IsProper v (with_size t n)
  filled-proper es (ArrayOf t None) n q text room =
      let one = character-byte (layouts v) t text in
      (q.0, q.1, subst (λ k. n * k ≤ 2 ^ 32) (sym one) (small room))
    where
      small : nat_le n (2 ^ 32) ≡ true → n * 1 ≤ 2 ^ 32
      small h = grind (arith, nat_tests)
  filled-proper es (ArrayOf t (Some m)) n q text room = q
  filled-proper es VoidTy n q text room = absurd cc
  filled-proper es (IntTy k) n q text room = absurd cc
  filled-proper es (PointerTo t) n q text room = absurd cc
  filled-proper es (StructTag k) n q text room = absurd cc
  filled-proper es (UnionTag k) n q text room = absurd cc
  filled-proper es (FunctionTy t ts c) n q text room = absurd cc
  filled-proper es (ConstOf t) n q text room = absurd cc

  fill-gives : (lasting : Bool) (p : Part) (line : ℕ) (bytes : List ℕ) (s : State) → is_text p.t ≡ true → (Orderly s → IsText bytes) → Gives U v [] (IsProper v p.t) s (StoredIn lasting p s) (to_expressions (filled_with p line (filling_text line bytes s)))
  fill-gives lasting p line bytes s text good = by (has_room (bare_type p.t) (length bytes)) refl
    where
      by : (b : Bool) → has_room (bare_type p.t) (length bytes) ≡ b
          → Gives U v [] (IsProper v p.t) s (StoredIn lasting p s) (to_expressions (option_map (characters p line (filling_text line bytes s)) (if b then Some (with_size (bare_type p.t) (length bytes)) else None)))
      by false f = gives-none U v [] (IsProper v p.t) s (StoredIn lasting p s)
      by true f =
          gives-some U v [] (IsProper v p.t) s (StoredIn lasting p s) (low (characters p line (filling_text line bytes s) (with_size (bare_type p.t) (length bytes)))) (text-moves line bytes s good)
          (λ l h g. (
            text-proper line bytes s g,
            record {
              whole = filled-proper (env s) (bare_type p.t) (length bytes) (proper-bare v p.t h) text f;
              stored = λ os here. (((omega arith, tt), tt), record { evaluated = here.evaluated; visible = here.visible });
              constant = λ k r. ((omega arith, tt), tt);
            },
            none-made v s (filling_text line bytes s).state refl,
          ))

  -- ---- shapes (6.7.9p11 to p16)

  -- 6.7.9p14: string literals fill an array of characters alone
  abbrev IsFor : Part → Shape → Type 0
  IsFor p (Fill line first more) = is_text p.t ≡ true
  IsFor p _ = Unit {0}

  for-filling : (p : Part) (b : Bool) (a : ExpressionTree) (x : Shape) → is_text p.t ≡ b → IsFor p x → IsFor p (or_shape (filling b a) x)
  for-filling p true (Text line first more) x e h = e
  for-filling p true _ x e h = h
  for-filling p false a x e h = h

  for-choice : (p : Part) (b c : Bool) (a : ExpressionTree) → IsFor p (if b then Single a else if c then Zero a else init.Each)
  for-choice p true c a = tt
  for-choice p false true a = tt
  for-choice p false false a = tt

  for-list : (p : Part) (ds : List Completed) (o : Option ExpressionTree) → IsFor p (list_shape ds p o)
  for-list p ds (Some a) = for-filling p (is_text p.t) a (if is_scalar p.t then Single a else if begins_deep ds p a then Zero a else init.Each) refl (for-choice p (is_scalar p.t) (begins_deep ds p a) a)
  for-list p ds None = by (is_scalar p.t)
    where
      by : (b : Bool) → IsFor p (if b then Wrong else init.Each)
      by true = tt
      by false = tt

  for-shape : (p : Part) (ds : List Completed) (i : InitializerTree) → IsFor p (shape_of ds p i)
  for-shape p ds (Initial line a) = for-filling p (is_text p.t) a (Single a) refl tt
  for-shape p ds (Braces line inits comma) = for-list p ds (only_expression inits)

  -- 6.4.4.4p10: the character constants of a shape are those of its initializer
  abbrev ShapeCharacters : Shape → Type 0
  ShapeCharacters (Single a) = HasCharacters a
  ShapeCharacters (Zero a) = HasCharacters a
  ShapeCharacters _ = Unit {0}

  filling-characters : (b : Bool) (a : ExpressionTree) (x : Shape) → ShapeCharacters x → ShapeCharacters (or_shape (filling b a) x)
  filling-characters true (Text line first more) x h = tt
  filling-characters true _ x h = h
  filling-characters false a x h = h

  choice-characters : (b c : Bool) (a : ExpressionTree) → HasCharacters a → ShapeCharacters (if b then Single a else if c then Zero a else init.Each)
  choice-characters true c a h = h
  choice-characters false true a h = h
  choice-characters false false a h = tt

  list-characters : (p : Part) (ds : List Completed) (o : Option ExpressionTree) → ((a : ExpressionTree) → o ≡ Some a → HasCharacters a) → ShapeCharacters (list_shape ds p o)
  list-characters p ds (Some a) h = filling-characters (is_text p.t) a (if is_scalar p.t then Single a else if begins_deep ds p a then Zero a else init.Each) (choice-characters (is_scalar p.t) (begins_deep ds p a) a (h a refl))
  list-characters p ds None h = by (is_scalar p.t)
    where
      by : (b : Bool) → ShapeCharacters (if b then Wrong else init.Each)
      by true = tt
      by false = tt

  only-characters : (ts : Trees) → TreesCharacters ts → (a : ExpressionTree) → only_expression ts ≡ Some a → HasCharacters a
  only-characters (Then NoTrees (OfInitializer (Initial line b))) c a e = subst HasCharacters (some-same b a e) c.1
  only-characters NoTrees c a e = absurd cc
  only-characters (Then NoTrees (OfInitializer (Braces line inits comma))) c a e = absurd cc
  only-characters (Then NoTrees (OfExpression x)) c a e = absurd cc
  only-characters (Then NoTrees (OfDeclaration x)) c a e = absurd cc
  only-characters (Then NoTrees (OfDeclarator x)) c a e = absurd cc
  only-characters (Then NoTrees (OfSpecifier x)) c a e = absurd cc
  only-characters (Then NoTrees (OfStatement x)) c a e = absurd cc
  only-characters (Then (Then before x) (OfInitializer i)) c a e = absurd cc
  only-characters (Then (Then before x) (OfExpression y)) c a e = absurd cc
  only-characters (Then (Then before x) (OfDeclaration y)) c a e = absurd cc
  only-characters (Then (Then before x) (OfDeclarator y)) c a e = absurd cc
  only-characters (Then (Then before x) (OfSpecifier y)) c a e = absurd cc
  only-characters (Then (Then before x) (OfStatement y)) c a e = absurd cc

  shape-characters : (p : Part) (ds : List Completed) (i : InitializerTree) → InitializerCharacters i → ShapeCharacters (shape_of ds p i)
  shape-characters p ds (Initial line a) c = filling-characters (is_text p.t) a (Single a) c
  shape-characters p ds (Braces line inits comma) c = list-characters p ds (only_expression inits) (λ a e. only-characters inits c a e)

  -- ---- what is stored by a shape

  stored-as : (lasting : Bool) (p q : Part) (s : State) (f : check.After Stores) → f.value.count ≡ 1 → size (with_size (bare_type q.t) 1) + q.offset ≤ size (with_size (bare_type p.t) 1) + p.offset → IsProper v (with_size (bare_type p.t) 1) → StoredIn lasting q s f → StoredIn lasting p s f
  stored-as lasting p q s f one le proper h = record {
    whole = subst (λ n. IsProper v (with_size (bare_type p.t) n)) (sym one) proper;
    stored = λ os here. let z = h.stored os here in (below-more (End q f.value.count) (End p f.value.count) (λ t x. IsInitializer v os t x) f.value.stores ends z.0, z.1);
    constant = λ k e. below-more (End q f.value.count) (End p f.value.count) (λ t x. IsConstant v t x) f.value.stores ends (h.constant k e);
  }
    where
      ends : End q f.value.count ≤ End p f.value.count
      ends = subst (λ n. End q n ≤ End p n) (sym one) (omega (arith, le))

  -- a part ends before the whole does
  can-sized : (es : List Entry) (t : Ty) (n : ℕ) → can_be_initialized es t ≡ true → is_complete_in es (with_size t (n + 1)) ≡ true
  can-sized es (ArrayOf t None) n h = both (nat_lt 0 (n + 1)) (is_complete_in es t) (grind (arith, nat_tests)) h
  can-sized es (ArrayOf t (Some m)) n h = h
  can-sized es VoidTy n h = absurd cc
  can-sized es (IntTy k) n h = refl
  can-sized es (PointerTo t) n h = refl
  can-sized es (StructTag k) n h = h
  can-sized es (UnionTag k) n h = h
  can-sized es (FunctionTy t ts c) n h = absurd cc
  can-sized es (ConstOf t) n h = h

  part-ends : (s : State) → Later s v → (p : Part) → MayFill p s → (n : ℕ) (q : Part) → IsPart v (env s) (p.offset + (layout_in (env s) (with_size (bare_type p.t) (n + 1))).size) (with_size (bare_type p.t) (n + 1)) q → (k : ℕ) → End q k ≤ End p (n + 1)
  part-ends s l p may n q h k =
      let whole = can-sized (env s) (bare_type p.t) n (can-bare v (env s) p.t may.0 may.1) in
      let outer : size (with_size (bare_type p.t) (n + 1)) ≡ (layout_in (env s) (with_size (bare_type p.t) (n + 1))).size = ap (λ (x : Layout). x.size) (layout-later (env s) v l.unit.layouts (with_size (bare_type p.t) (n + 1)) whole) in
      let inner : size (with_size (bare_type q.t) k) ≡ (layout_in (env s) q.t).size =
      sized-size (layouts v) q.t k (complete-later (env s) v l.unit.layouts q.t h.found.complete) ∙ ap (λ (x : Layout). x.size) (layout-later (env s) v l.unit.layouts q.t h.found.complete) in
      let w = h.found.within in
      omega (arith, outer, inner, w)

  -- 6.7.9p20, p21: the list `{0}`
  zero-gives : (lasting : Bool) (p : Part) (a : ExpressionTree) (s : State) → HasCharacters a → s.unevaluated ≡ false → Gives U v [] (MayFill p s) s (StoredIn lasting p s) (to_expressions (parts.zero values lasting p a s))
  unfolding values
  zero-gives lasting p a s c ev =
      value-gives v (MayFill p s) s (StoredIn lasting p s) (zero_leaf s.unit.completed p) (λ leaf. single_store values lasting leaf a s) (λ leaf e. record { held = λ f q. next leaf e f q })
    where
      next : (leaf : Part) → zero_leaf s.unit.completed p ≡ Some leaf → (f : check.After Stores) → to_expressions (single_store values lasting leaf a s) ≡ Some f
          → Moves U v [] s f.state × (Later f.state v → MayFill p s → IsProperState v s → IsProperState v f.state × StoredIn lasting p s f × HasMade v s f.state)
      next leaf e f q =
          let z = (single-gives lasting leaf a s c ev).held f q in (
            z.0,
            λ l h g.
                let k = z.0.later l in
                let found = zero-found v s.unit.completed g.unit.completed k.unit.layouts p h.0 h.1 leaf e in
                let w = z.1 l found.found.proper g in
                let ends = part-ends s k p h 0 leaf found 1 in
                (w.0, stored-as lasting p leaf s f w.1.1 (omega (arith, ends)) found.whole w.1.0, w.2),
          )

  formed-gives : (lasting : Bool) (p : Part) (s : State) (each : Option (After State Stores)) → Gives U v [] (MayFill p s) s (StoredIn lasting p s) (to_expressions each) → (x : Shape) → IsFor p x → ShapeCharacters x → s.unevaluated ≡ false
      → Gives U v [] (MayFill p s) s (StoredIn lasting p s) (to_expressions (stores_of_shape values lasting p s each x))
  unfolding values
  formed-gives lasting p s each h (Fill line first more) f c ev =
      gives-weaker U U (IsProper v p.t) (MayFill p s) v [] s (StoredIn lasting p s) (StoredIn lasting p s) (to_expressions (filled_with p line (filling_text line (bytes_of_text s.texts first more) s))) (λ i. i) (λ q. q.0) (λ a q. q)
      (fill-gives lasting p line (bytes_of_text s.texts first more) s f (λ h. text-bytes s.texts first more h.sources))
  formed-gives lasting p s each h (Single a) f c ev =
      gives-weaker U U (IsProper v p.t) (MayFill p s) v [] s (OneIn lasting p s) (StoredIn lasting p s) (to_expressions (single_store values lasting p a s)) (λ i. i) (λ q. q.0) (λ a q. q.0) (single-gives lasting p a s c ev)
  formed-gives lasting p s each h (Zero a) f c ev = zero-gives lasting p a s c ev
  formed-gives lasting p s each h init.Each f c ev = h
  formed-gives lasting p s each h Wrong f c ev = gives-none U v [] (MayFill p s) s (StoredIn lasting p s)

  -- ---- lists in braces (6.7.9p16 to p19)

  proper-none : (t : Ty) → IsProper v t → IsProper v (with_size t 0)
  proper-none (ArrayOf t None) h = (h.0, h.1, omega arith)
  proper-none (ArrayOf t (Some m)) h = h
  proper-none VoidTy h = h
  proper-none (IntTy k) h = h
  proper-none (PointerTo t) h = h
  proper-none (StructTag k) h = h
  proper-none (UnionTag k) h = h
  proper-none (FunctionTy t ts c) h = h
  proper-none (ConstOf t) h = h

  none-stored : (lasting : Bool) (p : Part) (s : State) → Gives U v [] (MayFill p s) s (StoredIn lasting p s) (Some (low (nothing s)))
  none-stored lasting p s =
      gives-some U v [] (MayFill p s) s (StoredIn lasting p s) (low (nothing s)) (same-moves U v [] s)
      (λ l h g. (g, record { whole = proper-none (bare_type p.t) (proper-bare v p.t h.0); stored = λ os here. (tt, here); constant = λ k e. tt }, none-made v s s refl))

  -- one part more
  joined-gives : (lasting : Bool) (p q : Part) (s : State) (d : After State Stores) → Moves U v [] s d.state → part_at d.state.unit.completed p d.value.count ≡ Some q → (o : Option (After State Stores))
      → Gives U v [] (MayFill q d.state) d.state (StoredIn lasting q d.state) (to_expressions o)
      → Gives U v [] (MayFill p s × StoredIn lasting p s (low d)) d.state (StoredIn lasting p s) (to_expressions (option_map (then_part d.value) o))
  joined-gives lasting p q s d m e None h = gives-none U v [] (MayFill p s × StoredIn lasting p s (low d)) d.state (StoredIn lasting p s)
  joined-gives lasting p q s d m e (Some x) h =
      gives-some U v [] (MayFill p s × StoredIn lasting p s (low d)) d.state (StoredIn lasting p s) (low (then_part d.value x)) r.0
      (λ l k g.
      let before = r.0.later l in
      let may : MayFill p d.state = (k.0.0, can-grown (env s) (env d.state) p.t m.grows k.0.1) in
      let found = part-at-found v d.state.unit.completed g.unit.completed before.unit.layouts p may.0 may.1 d.value.count q e in
      let w = r.1 l (found.found.proper, can-complete (env d.state) q.t found.found.complete) g in
      let first : End p d.value.count ≤ End p (d.value.count + 1) = let more = sized-more (layouts v) (bare_type p.t) d.value.count in omega (arith, more) in
      let last = part-ends d.state before p may d.value.count q found x.value.count in (
        w.0,
        record {
          whole = found.whole;
          stored = λ os here.
              let y = k.1.stored os here in
              let z = w.1.stored os y.1 in (
                each_append (λ (i : Store). (i.offset + size i.t ≤ End p (d.value.count + 1)) × IsInitializer v os i.t i.what) d.value.stores x.value.stores
                    (below-more (End p d.value.count) (End p (d.value.count + 1)) (λ t i. IsInitializer v os t i) d.value.stores first y.0)
                    (below-more (End q x.value.count) (End p (d.value.count + 1)) (λ t i. IsInitializer v os t i) x.value.stores last z.0),
                z.1,
              );
          constant = λ grown lasts.
              each_append (λ (i : Store). (i.offset + size i.t ≤ End p (d.value.count + 1)) × IsConstant v i.t i.what) d.value.stores x.value.stores
              (below-more (End p d.value.count) (End p (d.value.count + 1)) (λ t i. IsConstant v t i) d.value.stores first (k.1.constant (grown-before U v [] d.state x.state r.0 grown) lasts))
              (below-more (End q x.value.count) (End p (d.value.count + 1)) (λ t i. IsConstant v t i) x.value.stores last (w.1.constant grown lasts));
        },
        w.2,
      ))
    where
      r : Moves U v [] d.state x.state × (Later x.state v → MayFill q d.state → IsProperState v d.state → IsProperState v x.state × StoredIn lasting q d.state (low x) × HasMade v d.state x.state)
      r = h.held (low x) refl

  mutual
    unfolding values

    tree-gives : (lasting : Bool) (i : InitializerTree) (p : Part) (s : State) → InitializerCharacters i → s.unevaluated ≡ false → Gives U v [] (MayFill p s) s (StoredIn lasting p s) (to_expressions (init.initializer_stores values lasting p i s))
    tree-gives lasting (Initial line a) p s c ev =
        formed-gives lasting p s None (gives-none U v [] (MayFill p s) s (StoredIn lasting p s)) (shape_of s.unit.completed p (Initial line a)) (for-shape p s.unit.completed (Initial line a)) (shape-characters p s.unit.completed (Initial line a) c) ev
    tree-gives lasting (Braces line inits comma) p s c ev =
        formed-gives lasting p s (each_initialized values lasting p inits s) (each-gives lasting inits p s c ev) (shape_of s.unit.completed p (Braces line inits comma)) (for-shape p s.unit.completed (Braces line inits comma))
        (shape-characters p s.unit.completed (Braces line inits comma) c) ev

    each-gives : (lasting : Bool) (ts : Trees) (p : Part) (s : State) → TreesCharacters ts → s.unevaluated ≡ false → Gives U v [] (MayFill p s) s (StoredIn lasting p s) (to_expressions (each_initialized values lasting p ts s))
    each-gives lasting NoTrees p s c ev = none-stored lasting p s
    each-gives lasting (Then before (OfInitializer i)) p s c ev =
        then-gives v (MayFill p s) s (StoredIn lasting p s) (StoredIn lasting p s) (each_initialized values lasting p before s)
        (λ d. option_and_then (λ q. option_map (then_part d.value) (init.initializer_stores values lasting q i d.state)) (part_at d.state.unit.completed p d.value.count)) (each-gives lasting before p s c.0 ev)
        (λ d m. value-gives v (MayFill p s × StoredIn lasting p s (low d)) d.state (StoredIn lasting p s) (part_at d.state.unit.completed p d.value.count) (λ q. option_map (then_part d.value) (init.initializer_stores values lasting q i d.state))
        (λ q e. joined-gives lasting p q s d m e (init.initializer_stores values lasting q i d.state) (tree-gives lasting i q d.state c.1 (m.evaluated ∙ ev))))
    each-gives lasting (Then before (OfExpression x)) p s c ev = gives-none U v [] (MayFill p s) s (StoredIn lasting p s)
    each-gives lasting (Then before (OfDeclaration x)) p s c ev = gives-none U v [] (MayFill p s) s (StoredIn lasting p s)
    each-gives lasting (Then before (OfDeclarator x)) p s c ev = gives-none U v [] (MayFill p s) s (StoredIn lasting p s)
    each-gives lasting (Then before (OfSpecifier x)) p s c ev = gives-none U v [] (MayFill p s) s (StoredIn lasting p s)
    each-gives lasting (Then before (OfStatement x)) p s c ev = gives-none U v [] (MayFill p s) s (StoredIn lasting p s)

  -- ---- the object (6.7.9p3, p22)

  plain-sized : (t : Ty) (n : ℕ) → IsValueOrVoid t → with_size t n ≡ t
  plain-sized VoidTy n h = refl
  plain-sized (IntTy k) n h = refl
  plain-sized (PointerTo t) n h = refl
  plain-sized (ArrayOf t m) n h = absurd h
  plain-sized (StructTag k) n h = refl
  plain-sized (UnionTag k) n h = refl
  plain-sized (FunctionTy t ts c) n h = absurd h
  plain-sized (ConstOf t) n h = absurd h

  -- an array has no qualifier itself (6.7.3p9)
  whole-proper : (t : Ty) (n : ℕ) → IsProper v t → IsProper v (with_size (bare_type t) n) → IsProper v (with_size t n)
  whole-proper VoidTy n p h = p
  whole-proper (IntTy k) n p h = p
  whole-proper (PointerTo t) n p h = p
  whole-proper (ArrayOf t m) n p h = h
  whole-proper (StructTag k) n p h = p
  whole-proper (UnionTag k) n p h = p
  whole-proper (FunctionTy t ts c) n p h = p
  whole-proper (ConstOf t) n p h = p

  whole-size : (t : Ty) (n : ℕ) → IsProper v t → size (with_size (bare_type t) n) ≡ size (with_size t n)
  whole-size VoidTy n p = refl
  whole-size (IntTy k) n p = refl
  whole-size (PointerTo t) n p = refl
  whole-size (ArrayOf t m) n p = refl
  whole-size (StructTag k) n p = refl
  whole-size (UnionTag k) n p = refl
  whole-size (FunctionTy t ts c) n p = refl
  whole-size (ConstOf t) n p = ap (λ u. size (with_size u n)) (plain-bare t p.0) ∙ ap size (plain-sized t n p.0)

  given-in : (lasting : Bool) (t : Ty) (b : Bool) (s : State) (x : After State Stores) → IsProper v t → StoredIn lasting (whole_object t) s (low x) → GivenIn v lasting t s (low (given_to t b x))
  given-in lasting t b s x p h =
      let same = whole-size t x.value.count p in
      let ends : End (whole_object t) x.value.count ≤ size (with_size t x.value.count) = omega (arith, same) in
      record {
        proper = whole-proper t x.value.count p h.whole;
        sized = (x.value.count, refl);
        constant = λ k e. below-more (End (whole_object t) x.value.count) (size (with_size t x.value.count)) (λ u y. IsConstant v u y) x.value.stores ends (h.constant k e);
        stored = λ os here. let z = h.stored os here in (below-more (End (whole_object t) x.value.count) (size (with_size t x.value.count)) (λ u y. IsInitializer v os u y) x.value.stores ends z.0, z.1);
      }

  given-gives : (lasting : Bool) (t : Ty) (b : Bool) (s : State) (o : Option (After State Stores)) → Gives U v [] (IsProper v t) s (StoredIn lasting (whole_object t) s) (to_expressions o)
      → Gives U v [] (IsProper v t) s (GivenIn v lasting t s) (to_expressions (option_map (given_to t b) o))
  given-gives lasting t b s None h = gives-none U v [] (IsProper v t) s (GivenIn v lasting t s)
  given-gives lasting t b s (Some x) h =
      let r = h.held (low x) refl in
      gives-some U v [] (IsProper v t) s (GivenIn v lasting t s) (low (given_to t b x)) r.0 (λ l p g. let z = r.1 l p g in (z.0, given-in lasting t b s x p z.1, z.2))

  -- 6.7.9p3, p22: what an object gets by its initializer
  pub initializer-gives : (lasting : Bool) (t : Ty) (i : InitializerTree) (s : State) → InitializerCharacters i → s.unevaluated ≡ false → Gives U v [] (IsProper v t) s (GivenIn v lasting t s) (typed_initializer lasting t i s)
  unfolding values initialized_object
  initializer-gives lasting t i s c ev = by (can_be_initialized (env s) t) refl
    where
      by : (b : Bool) → can_be_initialized (env s) t ≡ b
          → Gives U v [] (IsProper v t) s (GivenIn v lasting t s) (to_expressions (if b then option_map (given_to t (is_braced s.unit.completed (whole_object t) i)) (init.initializer_stores values lasting (whole_object t) i s) else None))
      by false e = gives-none U v [] (IsProper v t) s (GivenIn v lasting t s)
      by true e =
          given-gives lasting t (is_braced s.unit.completed (whole_object t) i) s (init.initializer_stores values lasting (whole_object t) i s)
          (gives-weaker U U (MayFill (whole_object t) s) (IsProper v t) v [] s (StoredIn lasting (whole_object t) s) (StoredIn lasting (whole_object t) s) (to_expressions (init.initializer_stores values lasting (whole_object t) i s)) (λ f. f) (λ p. (p, e)) (λ a q. q)
          (tree-gives lasting i (whole_object t) s c ev))

  -- the same in a block, whose names are told otherwise
  pub initializer-inside : (lasting : Bool) (t : Ty) (i : InitializerTree) (s : State) → InitializerCharacters i → s.unevaluated ≡ false → Gives ⊥ v [] (IsProper v t) s (GivenIn v lasting t s) (typed_initializer lasting t i s)
  initializer-inside lasting t i s c ev =
      gives-weaker U ⊥ (IsProper v t) (IsProper v t) v [] s (GivenIn v lasting t s) (GivenIn v lasting t s) (typed_initializer lasting t i s) (λ f. absurd f) (λ p. p) (λ a q. q) (initializer-gives lasting t i s c ev)
