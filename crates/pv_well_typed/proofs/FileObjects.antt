-- Declarations of objects and typedef names at file scope (C17 6.7, 6.9.2): what each does to the unit.
use Rattle.std.proofs.Common.{◌≡◌, ℕ, ◌<◌, ◌≤◌, ◌+◌, ◌-◌, ◌*◌, ◌==◌, Bool, true, false, not, ◌&&◌, ◌||◌, option_map, Option, Some, None, List, [], ◌∷◌, ◌++◌, length, set, get_or, refl, sym, ap, subst, ◌∙◌, arith, length-append, length-set, ◌⊎◌, inl, inr}
use Rattle.std.specs.Prelude.{if◌then◌else◌}
use Rattle.std.specs.Bool.{beq}
use Rattle.std.proofs.lemmas.Bool.{eqb-true, eq-eqb}
use Rattle.pv_tree.specs.Syntax.{InitializerTree}
use Rattle.pv_types.specs.Compatible.{are_compatible}
use Rattle.pv_types.specs.Layouts.{Entry, up_to, layout_in, is_complete_in}
use Rattle.pv_types.specs.Ty.{Ty, VoidTy, IntTy, PointerTo, ArrayOf, StructTag, UnionTag, FunctionTy, ConstOf}
use Rattle.pv_types.proofs.Matched.{matching}
use Rattle.pv_typed.specs.Addresses.{size_in}
use Rattle.pv_typed.specs.AddressParts.{or_zero}
use Rattle.pv_typed.specs.Known.{Each}
use Rattle.pv_typed.proofs.Each.{each_append, each_weaker}
use Rattle.pv_typed.specs.TypedUnits.{WholeUnit, TypedObject, Store, layouts, object_at}
use Rattle.pv_typed.specs.UnitParts.{no_object}
use Rattle.pv_check.specs.Composite.{composite_of}
use Rattle.pv_types.specs.SameTypes.{same_type as same}
use Rattle.pv_typed.specs.TypedTree.{is_function}
use Rattle.pv_check.specs.State.{State, After, Scope, Meaning, ObjectName, FunctionName, TypedefOf, ConstantOf, env}
use Rattle.pv_check.specs.Scopes.{innermost_scope, find, bind}
use Rattle.pv_typed.specs.Constants.{and_then}
use Rattle.pv_typed.specs.Mains.{named_main}
use Rattle.pv_unit.specs.MainType.{main_type}
use Rattle.pv_unit.specs.Redeclarations.{Entity, UnitState, unit_name, is_entity, entities_after, is_initialized, entity, with_object_type, new_object, with_new_object, object_again, object_declared}
use Rattle.pv_unit.specs.Declarations.{typedef_again, typedef_found, typedef_declared, after_declaration, object_initialized}
use Rattle.pv_unit.specs.DeclarationParts.{object_noted, plain_object}
use Rattle.pv_unit.specs.Initializers as init
use Rattle.pv_unit.specs.InitializerParts.{is_braced}
use Rattle.pv_unit.specs.Initializers.{Stores, Given, initialized_object, given_to, whole_object}
use Rattle.pv_unit.specs.Rules as rules
use Rattle.pv_unit.specs.Parts.{with_size, can_be_initialized}
use Rattle.pv_unit.specs.ValueRules.{to_expressions, values, typed_initializer, with_given}
use Rattle.pv_check.specs.declared.specifiers.Storage.{Storage}
use Rattle.pv_guards.specs.TypedStatements.{IsConstant}
use Rattle.pv_well_typed.proofs.SourceCharacters.{InitializerCharacters}
use Rattle.pv_well_typed.specs.Later.{IsFinished, Later}
use Rattle.pv_well_typed.specs.Proper.{IsProper}
use Rattle.pv_well_typed.specs.ProperStates.{IsProperState, IsVisible}
use Rattle.pv_well_typed.proofs.Operands.{some-same}
use Rattle.pv_well_typed.proofs.UnaryRows.{both-true}
use Rattle.pv_well_typed.proofs.Composites.{composite-complete, composite-size, proper-composite}
use Rattle.pv_well_typed.proofs.PrimaryRows.{each-at, last-at}
use Rattle.pv_well_typed.proofs.TagRows.{bits-equal, bind-moves}
use Rattle.pv_well_typed.proofs.Changes.{find-each, more_object, bind-proper, bind-visible, before-at}
use Rattle.pv_well_typed.proofs.UnitChanges.{with_object, set-same, set-other, differ, grown-set, size-sized, with-object-orderly, with-object-later, with-object-proper, new-object-proper}
use Rattle.pv_well_typed.proofs.Moving.{identifier-apart, AreConstantStores, Grown, HasMade, none-made, Moves, then-moves, grown-before}
use Rattle.pv_well_typed.proofs.DeclaredTypes.{from-some}
use Rattle.pv_well_typed.proofs.Walk.{U, object-moves}
use Rattle.pv_well_typed.proofs.StatementWalk.{count, visible-more}
use Rattle.pv_well_typed.proofs.BlockRows.{GivenIn}
use Rattle.pv_well_typed.proofs.InitializerGives.{initializer-gives}
use Rattle.pv_well_typed.proofs.FileScope.{found-more, HasEntity, declared-objects, declared-has, has-declared, has-front, has-behind, has-either, marked-has, has-marked, initialized-marked, initialized-front, IsEntityOf, blank, IsUnit, ObjectIs, UnitIs, Goes, lead-goes, then-goes, same-goes, state-goes, entity-kept, object-kept, entity-found}

-- ---- 6.9.2p1, p2: what is said of one of them

or-false : (b : Bool) → (b || false) ≡ b
or-false true = refl
or-false false = refl

-- of an object, or no more than that a function is declared
marked-kept : (g : Bool) (j : ℕ) (d i b : Bool) (k : Option ℕ) (u : WholeUnit) (es : List Entity) → (g ≡ true → (d ≡ false) × (i ≡ false)) → Each (IsEntityOf k u) es → Each (IsEntityOf k u) (entities_after g j d i b es)
marked-kept g j d i b k u [] plain h = tt
marked-kept g j d i b k u (e ∷ es) plain h = by (marked-kept g j d i b k u es plain h.1) (is_entity g j e) refl
  where
    function-is : is_entity g j e ≡ true → e.function ≡ true → g ≡ true
    function-is q f = sym (bits-equal e.function g (both-true (beq e.function g) (e.number == j) q).0) ∙ f

    more : is_entity g j e ≡ true → IsEntityOf k u (record e { defined = e.defined || d; initialized = e.initialized || i; unsized = e.unsized || b })
    more q = record {
      object = h.0.object;
      function = h.0.function;
      defined = λ f t. h.0.defined f (sym (or-false e.defined) ∙ ap (λ c. e.defined || c) (sym (plain (function-is q f)).0) ∙ t);
    }

    by : Each (IsEntityOf k u) (entities_after g j d i b es) → (c : Bool) → is_entity g j e ≡ c
        → Each (IsEntityOf k u) (if c then record e { defined = e.defined || d; initialized = e.initialized || i; unsized = e.unsized || b } ∷ es else e ∷ entities_after g j d i b es)
    by rest true q = (more q, h.1)
    by rest false q = (h.0, rest)

-- 6.2.7p3: no smaller than the older type
pub composite-wider : (es : List Entry) (t u : Ty) → (layout_in es t).size ≤ (layout_in es (composite_of t u)).size
composite-wider es (PointerTo t) (PointerTo u) = omega arith
composite-wider es (ArrayOf t None) (ArrayOf u n) = omega arith
composite-wider es (ArrayOf t (Some m)) (ArrayOf u n) = wider m (layout_in es t).size (layout_in es (composite_of t u)).size (composite-wider es t u)
  where
    wider : (m a b : ℕ) → a ≤ b → m * a ≤ m * b
    wider m a b le = grind arith
composite-wider es (FunctionTy t ts c) (FunctionTy u us d) = omega arith
composite-wider es (ConstOf t) (ConstOf u) = composite-wider es t u
composite-wider es _ _ = omega arith

composite-grown : (es : List Entry) (t u : Ty)
    → or_zero (if is_complete_in es t then up_to (layout_in es t).size else None) ≤ or_zero (if is_complete_in es (composite_of t u) then up_to (layout_in es (composite_of t u)).size else None)
composite-grown es t u = by (is_complete_in es t) refl
  where
    by : (b : Bool) → is_complete_in es t ≡ b
        → or_zero (if b then up_to (layout_in es t).size else None) ≤ or_zero (if is_complete_in es (composite_of t u) then up_to (layout_in es (composite_of t u)).size else None)
    by false e = omega arith
    by true e =
        subst (λ c. or_zero (up_to (layout_in es t).size) ≤ or_zero (if c then up_to (layout_in es (composite_of t u)).size else None)) (sym (composite-complete es t u e))
        (subst (λ n. or_zero (up_to (layout_in es t).size) ≤ or_zero (up_to n)) (sym (composite-size es t u e)) (omega arith))

sized-wider : (es : List Entry) (t : Ty) (n : ℕ) → (layout_in es t).size ≤ (layout_in es (with_size t n)).size
sized-wider es (ArrayOf t None) n = omega arith
sized-wider es (ArrayOf t (Some m)) n = omega arith
sized-wider es VoidTy n = omega arith
sized-wider es (IntTy k) n = omega arith
sized-wider es (PointerTo t) n = omega arith
sized-wider es (StructTag k) n = omega arith
sized-wider es (UnionTag k) n = omega arith
sized-wider es (FunctionTy t ts c) n = omega arith
sized-wider es (ConstOf t) n = omega arith

module _ (v : WholeUnit) (done : IsFinished v) where
  -- ---- what is said of the entities alone

  entities-goes : (B : Type 0) (k : Option ℕ) (u : UnitState) (es : List Entity) → IsUnit v k u → ((f : Bool) (j : ℕ) → HasEntity f j es → HasEntity f j u.entities) → ((f : Bool) (j : ℕ) → HasEntity f j u.entities → HasEntity f j es)
      → ((j : ℕ) → is_initialized true j es ≡ false → is_initialized true j u.entities ≡ false) → Each (IsEntityOf k u.state.unit) es → Goes B v k u (record u { entities = es })
  entities-goes B k u es i back forth first h = record {
    later = λ l. l;
    grown = λ e. e;
    stays = λ e o lt none. e o lt (λ q. none (back false o q));
    count = omega arith;
    functions = omega arith;
    unit = record {
      file = i.file;
      evaluated = i.evaluated;
      unnoted = i.unnoted;
      orderly = i.orderly;
      names = visible-more (blank v) (declared-objects u.entities) (declared-objects es) (λ o q. has-declared o es (forth false o (declared-has o u.entities q))) u.state.scopes i.names;
      entities = h;
      functions = λ f lt. let z = i.functions f lt in record { declared = forth true f z.declared; shape = z.shape; fixed = z.fixed; unset = z.unset; fresh = λ q. z.fresh (first f q); main = z.main };
      found = i.found;
    };
    is = λ b l s. record {
      proper = s.proper;
      objects = λ g o lt. let z = s.objects g o lt in record { constants = z.constants; complete = λ none. z.complete (λ q. none (forth false o q)) };
      functions = λ g f lt. s.functions (λ o few none. g o few (λ q. none (back false o q))) f lt;
    };
  }

  pub noted-goes : (B : Type 0) (k : Option ℕ) (u : UnitState) (g : Bool) (j : ℕ) (d i b : Bool) → IsUnit v k u → (g ≡ true → (d ≡ false) × (i ≡ false)) → Goes B v k u (after_declaration g j d i b u)
  noted-goes B k u g j d i b h plain =
      entities-goes B k u (entities_after g j d i b u.entities) h (λ f n q. marked-has g j d i b f n u.entities q) (λ f n q. has-marked g j d i b f n u.entities q) (λ n q. initialized-marked g j d i b n u.entities q) (marked-kept g j d i b k u.state.unit u.entities plain h.entities)

  no-function : {A : Type 0} → false ≡ true → A
  no-function e = absurd cc

  -- ---- 6.2.1p7: a new object

  abbrev file-object : ℕ → ℕ → Ty → TypedObject
  file-object n line t = record { name = unit_name n; t = t; line = line; lasting = true; braced = false; inits = [] }

  object-moves-on : (n line : ℕ) (t : Ty) (s : State) → Moves ⊥ v [] s (new_object n line t true s)
  object-moves-on n line t s =
      then-moves ⊥ v [] s (more_object (file-object n line t) s) (new_object n line t true s) (object-moves v [] done ⊥ (file-object n line t) s (identifier-apart (unit_name n) n refl))
      (bind-moves ⊥ v [] n (ObjectName (count s)) (more_object (file-object n line t) s) (λ f. absurd f) tt)

  new-entity : (k : Option ℕ) (u : UnitState) (o : ℕ) → IsUnit v k u → HasEntity false o (entity 0 false (count u.state) ∷ []) → count u.state ≡ o
  new-entity k u o i (inl q) = eqb-true (count u.state) o (both-true (beq false false) (count u.state == o) q).1
  new-entity k u o i (inr q) = absurd q

  new-object-goes : (k : Option ℕ) (n line : ℕ) (t : Ty) (u : UnitState) → IsUnit v k u → Goes (IsProper v t) v k u (with_new_object n line t u).1
  new-object-goes k n line t u i =
      let s = u.state in
      let w = new_object n line t true s in
      let m = object-moves-on n line t s in
      let few = length-append s.unit.objects (file-object n line t ∷ []) in
      let last : object_at w.unit (count s) ≡ file-object n line t = last-at no_object s.unit.objects (file-object n line t) in
      record {
        later = m.later;
        grown = λ g. grown-before ⊥ v [] s w m g;
        stays = λ g o lt none. g o (omega (arith, few, lt)) (λ q. by o lt none (has-either false o u.entities (entity n false (count s) ∷ []) q)) ∙ m.older o lt;
        count = m.count;
        functions = omega arith;
        unit = record {
          file = m.outer.deep ∙ i.file;
          evaluated = i.evaluated;
          unnoted = i.unnoted;
          orderly = m.orderly i.orderly;
          names = bind-visible (blank v) (declared-objects (u.entities ++ (entity n false (count s) ∷ []))) n (ObjectName (count s)) (more_object (file-object n line t) s)
              (λ e. has-declared (count s) (u.entities ++ (entity n false (count s) ∷ [])) (has-behind false (count s) u.entities (entity n false (count s) ∷ []) (inl (eq-eqb (count s) (count s) refl))))
              (visible-more (blank v) (declared-objects u.entities) (declared-objects (u.entities ++ (entity n false (count s) ∷ [])))
              (λ o q. has-declared o (u.entities ++ (entity n false (count s) ∷ [])) (has-front false o u.entities (entity n false (count s) ∷ []) (declared-has o u.entities q))) s.scopes i.names);
          entities = each_append (IsEntityOf k w.unit) u.entities (entity n false (count s) ∷ []) (each_weaker (IsEntityOf k s.unit) (IsEntityOf k w.unit) (λ (e : Entity) q. entity-kept k s w ⊥ v [] m e q) u.entities i.entities) (
            record {
              object = λ f. (omega (arith, few), ap (λ (x : TypedObject). x.lasting) last);
              function = λ f. absurd cc;
              defined = λ f. absurd cc;
            },
            tt,
          );
          functions = λ f lt. let z = i.functions f lt in record { declared = has-front true f u.entities (entity n false (count s) ∷ []) z.declared; shape = z.shape; fixed = z.fixed; unset = z.unset; fresh = λ q. z.fresh (initialized-front f u.entities (entity n false (count s) ∷ []) q); main = z.main };
          found = found-more s.unit.functions w.unit.functions (innermost_scope s.scopes).names (innermost_scope w.scopes).names m.functions m.outer.finds i.found;
        };
        is = λ p l z. record {
          proper = new-object-proper v n line t true s p z.proper;
          objects = λ g o lt. at (grown-before ⊥ v [] s w m g) z o (either o (count s)) last few lt;
          functions = λ g f lt. z.functions (λ o less none. g o (omega (arith, few, less)) (λ q. by o less none (has-either false o u.entities (entity n false (count s) ∷ []) q)) ∙ m.older o less) f lt;
        };
      }
    where
      either : (o n : ℕ) → (o < n) ⊎ (n ≤ o)
      either o n = grind arith

      by : (o : ℕ) → o < count u.state → (HasEntity false o u.entities → ⊥) → HasEntity false o u.entities ⊎ HasEntity false o (entity n false (count u.state) ∷ []) → ⊥
      by o lt none (inl q) = none q
      by o lt none (inr (inl q)) = let same = eqb-true (count u.state) o q in omega (arith, same, lt)
      by o lt none (inr (inr q)) = q

      at : Grown v u.state → UnitIs v u → (o : ℕ) → (o < count u.state) ⊎ (count u.state ≤ o) → object_at (new_object n line t true u.state).unit (count u.state) ≡ file-object n line t
          → length (u.state.unit.objects ++ (file-object n line t ∷ [])) ≡ count u.state + 1 → o < count (new_object n line t true u.state)
          → ObjectIs v (new_object n line t true u.state).unit (u.entities ++ (entity n false (count u.state) ∷ [])) o
      at g z o (inl less) last few lt =
          let y = object-kept v u.state.unit (new_object n line t true u.state).unit u.entities o (before-at no_object u.state.unit.objects (file-object n line t ∷ []) o less) (z.objects g o less) in
          record { constants = y.constants; complete = λ none. y.complete (λ q. none (has-front false o u.entities (entity n false (count u.state) ∷ []) q)) }
      at g z o (inr le) last few lt =
          let same : count u.state ≡ o = omega (arith, le, few, lt) in
          let there : object_at (new_object n line t true u.state).unit o ≡ file-object n line t = subst (λ j. object_at (new_object n line t true u.state).unit j ≡ file-object n line t) same last in
          record {
            constants = λ l. subst (λ (x : TypedObject). AreConstantStores v x.t x.inits) (sym there) tt;
            complete = λ none l. absurd (none (has-behind false o u.entities (entity n false (count u.state) ∷ []) (inl (eq-eqb (count u.state) o same))));
          }

  -- ---- another object in the place of one of file scope

  -- with what it was before, or more
  abbrev Replaces : WholeUnit → TypedObject → TypedObject → Type 0
  Replaces u x y = (y.lasting ≡ x.lasting) × (or_zero (size_in u x.t) ≤ or_zero (size_in u y.t)) × (y.name ≡ x.name)

  pub set-goes : (B : Type 0) (k : Option ℕ) (o : ℕ) (y : TypedObject) (u : UnitState) → IsUnit v k u → HasEntity false o u.entities → Replaces u.state.unit (object_at u.state.unit o) y
      → (B → Later (with_object o y u.state) v → UnitIs v u → IsProper v y.t × (Grown v u.state → AreConstantStores v y.t y.inits)) → Goes B v k u (record u { state = with_object o y u.state })
  set-goes B k o y u i e r h =
      let s = u.state in
      let few = length-set s.unit.objects o y in
      record {
        later = with-object-later v o y s r.0;
        grown = grown-set v o y s r.1;
        stays = λ g j lt none. g j (omega (arith, few, lt)) none ∙ set-other no_object s.unit.objects o j y (λ q. none (subst (λ z. HasEntity false z u.entities) q e));
        count = omega (arith, few);
        functions = omega arith;
        unit = record {
          file = i.file;
          evaluated = i.evaluated;
          unnoted = i.unnoted;
          orderly = with-object-orderly o y s r.2 i.orderly;
          names = i.names;
          entities = each_weaker (IsEntityOf k s.unit) (IsEntityOf k (with_object o y s).unit) (λ (x : Entity) q. record { object = λ f. kept x few (q.object f); function = q.function; defined = q.defined }) u.entities i.entities;
          functions = λ f lt. let z = i.functions f lt in record { declared = z.declared; shape = z.shape; fixed = z.fixed; unset = z.unset; fresh = z.fresh; main = z.main };
          found = i.found;
        };
        is = λ b l z. let p = h b l z in record {
          proper = with-object-proper v o y s p.0 z.proper;
          objects = λ g j lt. at z p.1 (grown-set v o y s r.1 g) j (omega (arith, few, lt)) (o == j) refl;
          functions = λ g f lt. z.functions (λ j less none. g j (omega (arith, few, less)) none ∙ set-other no_object s.unit.objects o j y (λ q. none (subst (λ n. HasEntity false n u.entities) q e))) f lt;
        };
      }
    where
      kept : (x : Entity) → length (set u.state.unit.objects o y) ≡ count u.state → (x.number < count u.state) × ((object_at u.state.unit x.number).lasting ≡ true)
          → (x.number < length (set u.state.unit.objects o y)) × ((get_or (set u.state.unit.objects o y) x.number no_object).lasting ≡ true)
      kept x few q = let less = q.0 in (omega (arith, less, few), by (o == x.number) refl)
        where
          by : (b : Bool) → (o == x.number) ≡ b → (get_or (set u.state.unit.objects o y) x.number no_object).lasting ≡ true
          by true c =
              let same = eqb-true o x.number c in
              ap (λ (z : TypedObject). z.lasting) (subst (λ j. get_or (set u.state.unit.objects o y) j no_object ≡ y) same (set-same no_object u.state.unit.objects o y (subst (λ j. j < count u.state) (sym same) q.0)))
              ∙ r.0 ∙ ap (λ j. (object_at u.state.unit j).lasting) same ∙ q.1
          by false c = ap (λ (z : TypedObject). z.lasting) (set-other no_object u.state.unit.objects o x.number y (differ o x.number c)) ∙ q.1

      at : UnitIs v u → (Grown v u.state → AreConstantStores v y.t y.inits) → Grown v u.state → (j : ℕ) → j < count u.state → (b : Bool) → (o == j) ≡ b → ObjectIs v (with_object o y u.state).unit u.entities j
      at z p g j lt true c =
          let same = eqb-true o j c in
          let there : object_at (with_object o y u.state).unit j ≡ y = subst (λ n. object_at (with_object o y u.state).unit n ≡ y) same (set-same no_object u.state.unit.objects o y (subst (λ n. n < count u.state) (sym same) lt)) in
          record {
            constants = λ l. subst (λ (x : TypedObject). AreConstantStores v x.t x.inits) (sym there) (p g);
            complete = λ none l. absurd (none (subst (λ n. HasEntity false n u.entities) same e));
          }
      at z p g j lt false c = object-kept v u.state.unit (with_object o y u.state).unit u.entities j (set-other no_object u.state.unit.objects o j y (differ o j c)) (z.objects g j lt)

  wider-constants : (t u : Ty) (xs : List Store) → (layout_in (layouts v) t).size ≤ (layout_in (layouts v) u).size → AreConstantStores v t xs → AreConstantStores v u xs
  wider-constants t u xs le h =
      each_weaker (λ (x : Store). (x.offset + (layout_in (layouts v) x.t).size ≤ (layout_in (layouts v) t).size) × IsConstant v x.t x.what)
      (λ (x : Store). (x.offset + (layout_in (layouts v) x.t).size ≤ (layout_in (layouts v) u).size) × IsConstant v x.t x.what) (λ (x : Store) q. (let z = q.0 in omega (arith, z, le), q.1)) xs h

  -- an object of file scope has static storage, and what is known of it
  object-known : (k : Option ℕ) (u : UnitState) → IsUnit v k u → (o : ℕ) → HasEntity false o u.entities → (o < count u.state) × ((object_at u.state.unit o).lasting ≡ true)
  object-known k u i o e = entity-found k u.state.unit o u.entities i.entities e

  -- 6.2.7p4: its type is the composite one
  composed-goes : (k : Option ℕ) (o : ℕ) (t : Ty) (u : UnitState) → IsUnit v k u → HasEntity false o u.entities → are_compatible (object_at u.state.unit o).t t ≡ true
      → Goes (IsProper v t) v k u (record u { state = with_object_type o (composite_of (object_at u.state.unit o).t t) u.state })
  composed-goes k o t u i e c =
      let x = object_at u.state.unit o in
      set-goes (IsProper v t) k o (record x { t = composite_of x.t t }) u i e (refl, composite-grown (env u.state) x.t t, refl)
      (λ p l z.
      let there = object-known k u i o e in
      let old = each-at (λ (y : TypedObject). IsProper v y.t) no_object u.state.unit.objects o tt z.proper.unit.objects in (
        proper-composite v x.t t (matching x.t t c) old p,
        λ g. wider-constants x.t (composite_of x.t t) x.inits (composite-wider (layouts v) x.t t) ((z.objects g o there.0).constants there.1),
      ))

  -- ---- 6.7p4: a declaration of an object

  pub record ObjectAt (B : Type 0) (k : Option ℕ) (u : UnitState) (a : ℕ × UnitState) : Type 0 where
    pub goes : Goes B v k u a.1
    pub declared : HasEntity false a.0 a.1.entities

  -- what a name of file scope stands for
  name-entity : (k : Option ℕ) (u : UnitState) → IsUnit v k u → (n o : ℕ) → find (innermost_scope u.state.scopes).names n ≡ Some (ObjectName o) → HasEntity false o u.entities
  name-entity k u i n o e =
      let inner = each-at (λ (x : Scope). Each (λ (e : ℕ × Meaning). IsVisible (blank v) (declared-objects u.entities) e.1) x.names) (record { names = []; tags = [] }) u.state.scopes (length u.state.scopes - 1) tt i.names in
      declared-has o u.entities (find-each (IsVisible (blank v) (declared-objects u.entities)) n (innermost_scope u.state.scopes).names inner (ObjectName o) e refl)

  as-object : (B : Type 0) (k : Option ℕ) (u : UnitState) (x a : ℕ × UnitState) → Some x ≡ Some a → ObjectAt B k u x → ObjectAt B k u a
  as-object B k u x a e h = subst (ObjectAt B k u) (some-same x a e) h

  again-goes : (k : Option ℕ) (m : Option Meaning) (n line : ℕ) (t : Ty) (u : UnitState) → IsUnit v k u → ((o : ℕ) → m ≡ Some (ObjectName o) → HasEntity false o u.entities) → (a : ℕ × UnitState) → object_again m n line t u ≡ Some a
      → ObjectAt (IsProper v t) k u a
  again-goes k None n line t u i f a e =
      as-object (IsProper v t) k u (with_new_object n line t u) a e (record {
        goes = new-object-goes k n line t u i;
        declared = has-behind false (count u.state) u.entities (entity n false (count u.state) ∷ []) (inl (eq-eqb (count u.state) (count u.state) refl));
      })
  again-goes k (Some (ObjectName o)) n line t u i f a e = by (are_compatible (object_at u.state.unit o).t t) refl e
    where
      by : (b : Bool) → are_compatible (object_at u.state.unit o).t t ≡ b → (if b then Some (o, record u { state = with_object_type o (composite_of (object_at u.state.unit o).t t) u.state }) else None) ≡ Some a
          → ObjectAt (IsProper v t) k u a
      by true c q =
          as-object (IsProper v t) k u (o, record u { state = with_object_type o (composite_of (object_at u.state.unit o).t t) u.state }) a q (record { goes = composed-goes k o t u i (f o refl) c; declared = f o refl })
      by false c q = absurd cc
  again-goes k (Some (FunctionName g)) n line t u i f a e = absurd cc
  again-goes k (Some (TypedefOf w)) n line t u i f a e = absurd cc
  again-goes k (Some (ConstantOf c)) n line t u i f a e = absurd cc

  pub object-declared : (k : Option ℕ) (n line : ℕ) (t : Ty) (u : UnitState) → IsUnit v k u → (a : ℕ × UnitState) → object_declared n line t u ≡ Some a → ObjectAt (IsProper v t) k u a
  object-declared k n line t u i a e = by (named_main u.state.unit.names (unit_name n)) e
    where
      by : (b : Bool) → (if b then None else object_again (find (innermost_scope u.state.scopes).names n) n line t u) ≡ Some a → ObjectAt (IsProper v t) k u a
      by true q = absurd cc
      by false q = again-goes k (find (innermost_scope u.state.scopes).names n) n line t u i (λ o f. name-entity k u i n o f) a q

  pub as-goes : (B : Type 0) (k : Option ℕ) (u x w : UnitState) → Some x ≡ Some w → Goes B v k u x → Goes B v k u w
  as-goes B k u x w e h = subst (Goes B v k u) (some-same x w e) h

  -- 6.9.2p1, p2: without an initializer
  pub plain-object-goes : (k : Option ℕ) (x : Storage) (t : Ty) (n : ℕ × ℕ) (unsized : Bool) (u w : UnitState) → IsUnit v k u → plain_object x t n unsized u ≡ Some w → Goes (IsProper v t) v k u w
  plain-object-goes k x t n unsized u w i e =
      let a = from-some (object_declared n.0 n.1 t u) (λ a. Some (object_noted x unsized a)) w e in
      let h = (object-declared k n.0 n.1 t u i a.0 a.1).goes in
      as-goes (IsProper v t) k u (object_noted x unsized a.0) w a.2
      (then-goes (IsProper v t) v k u a.0.1 (object_noted x unsized a.0) h (noted-goes (IsProper v t) k a.0.1 false a.0.0 _ false unsized h.unit (λ q. absurd cc)))

  -- 6.7.9: its initializer
  abbrev given-object : Given → TypedObject → TypedObject
  given-object f x = record x { t = f.t; braced = f.braced; inits = x.inits ++ f.stores }

  given-goes : (k : Option ℕ) (o : ℕ) (u : UnitState) (f : After Given) → IsUnit v k u → HasEntity false o u.entities → (n : ℕ) × (f.value.t ≡ with_size (object_at u.state.unit o).t n) → Moves U v [] u.state f.state
      → (Later f.state v → IsProper v (object_at u.state.unit o).t → IsProperState v u.state → IsProperState v f.state × GivenIn v true (object_at u.state.unit o).t u.state f × HasMade v u.state f.state)
      → Goes U v k u (record u { state = with_given o f.value f.state })
  given-goes k o u f i e size m h =
      let there = object-known k u i o e in
      let older : object_at f.state.unit o ≡ object_at u.state.unit o = m.older o there.0 in
      let type : f.value.t ≡ with_size (object_at f.state.unit o).t size.0 = size.1 ∙ ap (λ (x : TypedObject). with_size x.t size.0) (sym older) in
      let first = state-goes U v k u f.state i m (λ b l p. let z = h l (proper-at u o p) p in (z.0, z.2)) in
      lead-goes U (IsProper v f.value.t × (Grown v f.state → AreConstantStores v f.value.t f.value.stores)) v k k u (record u { state = f.state }) (record u { state = with_given o f.value f.state }) first
      (λ b l s. let z = h l (proper-at u o s.proper) s.proper in (z.1.proper, λ g. z.1.constant g refl))
      (set-goes (IsProper v f.value.t × (Grown v f.state → AreConstantStores v f.value.t f.value.stores)) k o (given-object f.value (object_at f.state.unit o)) (record u { state = f.state }) first.unit e
      (refl, subst (λ w. or_zero (size_in f.state.unit (object_at f.state.unit o).t) ≤ or_zero (size_in f.state.unit w)) (sym type) (size-sized (env f.state) (object_at f.state.unit o).t size.0), refl)
      (λ c l z. (c.0, λ g. constants f.state there.0 m.count (ap (λ (x : TypedObject). x.lasting) older ∙ there.1) type c z g g)))
    where
      proper-at : (w : UnitState) (j : ℕ) → IsProperState v w.state → IsProper v (object_at w.state.unit j).t
      proper-at w j p = each-at (λ (y : TypedObject). IsProper v y.t) no_object w.state.unit.objects j tt p.unit.objects

      constants : (t : State) → o < count u.state → count u.state ≤ count t → (object_at t.unit o).lasting ≡ true → f.value.t ≡ with_size (object_at t.unit o).t size.0
          → IsProper v f.value.t × (Grown v f.state → AreConstantStores v f.value.t f.value.stores) → UnitIs v (record u { state = t }) → Grown v t → Grown v f.state → AreConstantStores v f.value.t ((object_at t.unit o).inits ++ f.value.stores)
      constants t few more lasting type c z g k =
          each_append (λ (x : Store). (x.offset + (layout_in (layouts v) x.t).size ≤ (layout_in (layouts v) f.value.t).size) × IsConstant v x.t x.what) (object_at t.unit o).inits f.value.stores
          (wider-constants (object_at t.unit o).t f.value.t (object_at t.unit o).inits (subst (λ w. (layout_in (layouts v) (object_at t.unit o).t).size ≤ (layout_in (layouts v) w).size) (sym type) (sized-wider (layouts v) (object_at t.unit o).t size.0))
          ((z.objects g o (omega (arith, few, more))).constants lasting)) (c.1 k)

  -- what an object gets by its initializer is its type, with a size (6.7.9p22)
  given-sized : (lasting : Bool) (t : Ty) (i : InitializerTree) (s : State) (f : After Given) → typed_initializer lasting t i s ≡ Some f → (n : ℕ) × (f.value.t ≡ with_size t n)
  unfolding values initialized_object
  given-sized lasting t i s f e = by (can_be_initialized (env s) t) e
    where
      of : (o : Option (rules.After State Stores)) → to_expressions (option_map (given_to t (is_braced s.unit.completed (whole_object t) i)) o) ≡ Some f → (n : ℕ) × (f.value.t ≡ with_size t n)
      of None q = absurd cc
      of (Some x) q = (x.value.count, sym (ap (λ (y : After Given). y.value.t) (some-same (record { value = record { t = with_size t x.value.count; braced = is_braced s.unit.completed (whole_object t) i; stores = x.value.stores }; state = x.state }) f q)))

      by : (b : Bool) → to_expressions (if b then option_map (given_to t (is_braced s.unit.completed (whole_object t) i)) (init.initializer_stores values lasting (whole_object t) i s) else None) ≡ Some f → (n : ℕ) × (f.value.t ≡ with_size t n)
      by true q = of (init.initializer_stores values lasting (whole_object t) i s) q
      by false q = absurd cc

  -- 6.9.2p1: with its initializer
  pub initialized-goes : (k : Option ℕ) (i : InitializerTree) (a : ℕ × UnitState) (w : UnitState) → InitializerCharacters i → IsUnit v k a.1 → HasEntity false a.0 a.1.entities → object_initialized i a ≡ Some w → Goes U v k a.1 w
  initialized-goes k i a w c h e q = by (is_initialized false a.0 a.1.entities) q
    where
      by : (b : Bool)
          → (if b then None else and_then (typed_initializer true (object_at a.1.state.unit a.0).t i a.1.state) (λ f. Some (after_declaration false a.0 true true false (record a.1 { state = with_given a.0 f.value f.state })))) ≡ Some w → Goes U v k a.1 w
      by true q = absurd cc
      by false q =
          let f = from-some (typed_initializer true (object_at a.1.state.unit a.0).t i a.1.state) (λ f. Some (after_declaration false a.0 true true false (record a.1 { state = with_given a.0 f.value f.state }))) w q in
          let r = (initializer-gives v done true (object_at a.1.state.unit a.0).t i a.1.state c h.evaluated).held f.0 f.1 in
          let g = given-goes k a.0 a.1 f.0 h e (given-sized true (object_at a.1.state.unit a.0).t i a.1.state f.0 f.1) r.0 r.1 in
          as-goes U k a.1 (after_declaration false a.0 true true false (record a.1 { state = with_given a.0 f.0.value f.0.state })) w f.2
          (then-goes U v k a.1 (record a.1 { state = with_given a.0 f.0.value f.0.state }) (after_declaration false a.0 true true false (record a.1 { state = with_given a.0 f.0.value f.0.state })) g
          (noted-goes U k (record a.1 { state = with_given a.0 f.0.value f.0.state }) false a.0 true true false g.unit (λ z. absurd cc)))

  -- ---- 6.7.8: typedef names

  flag-goes : (B : Type 0) (k : Option ℕ) (u : UnitState) (b : Bool) → IsUnit v k u → Goes B v k u (record u { unsized_typedef = b })
  flag-goes B k u b i = record {
    later = λ l. l;
    grown = λ e. e;
    stays = λ e. e;
    count = omega arith;
    functions = omega arith;
    unit = record { file = i.file; evaluated = i.evaluated; unnoted = i.unnoted; orderly = i.orderly; names = i.names; entities = i.entities; functions = i.functions; found = i.found };
    is = λ c l s. record { proper = s.proper; objects = s.objects; functions = s.functions };
  }

  typedef-again-goes : (k : Option ℕ) (m : Option Meaning) (n : ℕ) (t : Ty) (u w : UnitState) → IsUnit v k u → typedef_again m n t u ≡ Some w → Goes (IsProper v t) v k u w
  typedef-again-goes k None n t u w i e =
      as-goes (IsProper v t) k u (record u { state = bind n (TypedefOf t) u.state }) w e
      (state-goes (IsProper v t) v k u (bind n (TypedefOf t) u.state) i (bind-moves U v [] n (TypedefOf t) u.state (λ f w ps. tt) tt)
      (λ p l g. (bind-proper v n (TypedefOf t) u.state p g, none-made v u.state (bind n (TypedefOf t) u.state) refl)))
  typedef-again-goes k (Some (TypedefOf x)) n t u w i e = by (same x t) e
    where
      by : (b : Bool) → (if b then Some u else None) ≡ Some w → Goes (IsProper v t) v k u w
      by true q = as-goes (IsProper v t) k u u w q (same-goes (IsProper v t) v k u i)
      by false q = absurd cc
  typedef-again-goes k (Some (ObjectName o)) n t u w i e = absurd cc
  typedef-again-goes k (Some (FunctionName f)) n t u w i e = absurd cc
  typedef-again-goes k (Some (ConstantOf c)) n t u w i e = absurd cc

  pub typedef-goes : (k : Option ℕ) (n : ℕ) (t : Ty) (unsized : Bool) (u w : UnitState) → IsUnit v k u → typedef_declared n t unsized u ≡ Some w → Goes (IsProper v t) v k u w
  typedef-goes k n t unsized u w i e = by (named_main u.state.unit.names (unit_name n) && not (is_function t && are_compatible t main_type)) e
    where
      by : (b : Bool) → (if b then None else typedef_found n t (record u { unsized_typedef = u.unsized_typedef || unsized })) ≡ Some w → Goes (IsProper v t) v k u w
      by true q = absurd cc
      by false q =
          let g = flag-goes (IsProper v t) k u (u.unsized_typedef || unsized) i in
          then-goes (IsProper v t) v k u (record u { unsized_typedef = u.unsized_typedef || unsized }) w g
          (typedef-again-goes k (find (innermost_scope u.state.scopes).names n) n t (record u { unsized_typedef = u.unsized_typedef || unsized }) w g.unit q)
