-- Declarations in blocks (C17 6.7, 6.2.4): each object that is declared is new, can be made, and its initializer is well typed.
use Rattle.std.proofs.Common.{◌≡◌, ◌≢◌, ℕ, suc, ◌<◌, ◌≤◌, ◌+◌, Bool, true, false, Option, Some, None, is_some, List, [], ◌∷◌, ◌++◌, refl, sym, ap, subst, ◌∙◌, arith, length-append, length-set, append-nil, ◌⊎◌, inl, inr}
use Rattle.std.specs.Prelude.{if◌then◌else◌}
use Rattle.pv_token.specs.declared.words.Word.{Word}
use Rattle.pv_token.specs.declared.words.Word.TheVariants as word
use Rattle.pv_tree.specs.Syntax.{DeclarationTree, Function as FunctionTree, Declaration, InitDeclarator, MemberDeclaration, Enumerator, Parameter, TypeName, DeclaratorTree, InitializerTree, Tree, OfExpression, OfDeclaration, OfDeclarator, OfSpecifier, OfInitializer, OfStatement, Trees, NoTrees, Then, OptionalTree, Absent, Present}
use Rattle.pv_types.specs.Layouts.{layout_in, is_complete_in}
use Rattle.pv_types.specs.Ty.{Ty}
use Rattle.pv_typed.specs.Known.{Each}
use Rattle.pv_typed.proofs.Each.{each_append, each_weaker, each_left, each_right}
use Rattle.pv_typed.specs.TypedUnits.{WholeUnit, TypedObject, Store, layouts, object_at}
use Rattle.pv_typed.specs.UnitParts.{no_object}
use Rattle.pv_check.specs.Derivations.{declared_name, derived_type}
use Rattle.pv_typed.specs.TypedTree.{is_function}
use Rattle.pv_check.specs.Specifiers.{Specified, specification_of}
use Rattle.pv_check.specs.State.{State, After, ObjectName, give, env}
use Rattle.pv_check.specs.Scopes.{innermost_scope, find, is_file_scope}
use Rattle.pv_typed.specs.Constants.{and_then}
use Rattle.pv_check.specs.Tags.{composite_named, tag_alone}
use Rattle.pv_check.specs.Typing.{specifiers, steps}
use Rattle.pv_unit.specs.Blocks.{Reached, block_storage, with_initializer, block_object, reached_object, is_present, block_declarator, block_init_declarator, block_declarators, block_alone, block_declaration}
use Rattle.pv_unit.specs.BlockParts.{block_declared}
use Rattle.pv_unit.specs.Declarations.{DeclaredType, only_tag, specified_by, type_declared}
use Rattle.pv_unit.specs.DeclarationParts.{declares_something, with_unsized, has_unsized}
use Rattle.pv_unit.specs.Statements.{reached_declarations as declares, declared_in}
use Rattle.pv_typed.specs.TypedStatement.{statements_of}
use Rattle.pv_guards.specs.TypedStatements as guards
use Rattle.pv_unit.specs.Redeclarations.{unit_name, new_object}
use Rattle.pv_unit.specs.Initializers.{Given}
use Rattle.pv_unit.specs.Parts.{with_size}
use Rattle.pv_typed.specs.Addresses.{size_in}
use Rattle.pv_typed.specs.AddressParts.{or_zero}
use Rattle.pv_unit.specs.ValueRules.{typed_initializer, with_given}
use Rattle.pv_eval.specs.Objects.{heap_name}
use Rattle.pv_guards.specs.Typed.{IsIn}
use Rattle.pv_guards.specs.TypedStatements.{IsMakeable, AreNew, IsInitializer, IsDeclared}
use Rattle.pv_well_typed.proofs.SourceCharacters.{OptionalCharacters, TreeCharacters, TreesCharacters, DeclarationCharacters, InitializerCharacters}
use Rattle.pv_well_typed.specs.Proper.{IsProper}
use Rattle.pv_well_typed.specs.Later.{IsFinished, Later}
use Rattle.pv_well_typed.specs.ProperStates.{IsProperState}
use Rattle.pv_well_typed.proofs.Types.{complete-later, small}
use Rattle.pv_well_typed.proofs.Operands.{as-made, some-same}
use Rattle.pv_well_typed.proofs.PrimaryRows.{last-at}
use Rattle.pv_well_typed.proofs.Changes.{inner-tag, more_object, bind-visible}
use Rattle.pv_well_typed.proofs.UnitChanges.{set-same, set-other, size-sized, grown-set, given-orderly, given-later, given-proper, new-object-proper}
use Rattle.pv_well_typed.proofs.Moving.{identifier-apart, AreConstantStores, IsStatic, Grown, StaticsMade, HasMade, Moves, Gives, then-moves, gives-none, gives-some, gives-here, gives-then, gives-value, gives-unless, gives-weaker}
use Rattle.pv_well_typed.proofs.DeclaredTypes.{from-some, specified-proper, derived-named}
use Rattle.pv_well_typed.proofs.TagRows.{bind-moves, composite-gives}
use Rattle.pv_well_typed.proofs.Walk.{AreNamedSteps, IsSeen, U, specifiers-give, steps-give, object-moves}
use Rattle.pv_well_typed.proofs.StatementRows.{Here}
use Rattle.pv_well_typed.proofs.StatementWalk.{ItemsIn, count, Kept, kept-before, AreIn, in-append}

-- ---- what keeps names visible, whichever objects live

always-gives : {A : Type 0} (v : WholeUnit) (P : Type 0) (s : State) (Q : After A → Type 0) (o : Option (After A)) → ((os : List ℕ) → Gives U v os P s Q o)
    → Gives ⊥ v [] P s (λ a. Q a × ((os : List ℕ) → Here v os s → Here v os a.state)) o
always-gives {A} v P s Q o h = record { held = λ a q. next a q }
  where
    next : (a : After A) → o ≡ Some a → Moves ⊥ v [] s a.state × (Later a.state v → P → IsProperState v s → IsProperState v a.state × (Q a × ((os : List ℕ) → Here v os s → Here v os a.state)) × HasMade v s a.state)
    next a q =
        let r = (h []).held a q in (
          record { later = r.0.later; outer = r.0.outer; grows = r.0.grows; names = λ f. absurd f; evaluated = r.0.evaluated; functions = r.0.functions; spelled = r.0.spelled; noted = r.0.noted; orderly = r.0.orderly; count = r.0.count; older = r.0.older },
          λ l p g. let z = r.1 l p g in (z.0, (z.1, λ os k. let m = ((h os).held a q).0 in record { evaluated = m.evaluated ∙ k.evaluated; visible = m.names tt v os k.visible }), z.2),
        )

-- the stores of an initializer lie within a type, and are well typed
abbrev pub AreStored : WholeUnit → List ℕ → Ty → List Store → Type 0
AreStored v os t xs = Each (λ (x : Store). (x.offset + (layout_in (layouts v) x.t).size ≤ (layout_in (layouts v) t).size) × IsInitializer v os x.t x.what) xs

-- 6.7.9: what an object gets
pub record GivenIn (v : WholeUnit) (lasting : Bool) (t : Ty) (s : State) (f : After Given) : Type 0 where
  pub proper : IsProper v f.value.t
  -- 6.7.9p22: an array of unknown size gets one
  pub sized : (n : ℕ) × (f.value.t ≡ with_size t n)
  pub constant : Grown v f.state → lasting ≡ true → AreConstantStores v f.value.t f.value.stores
  pub stored : (os : List ℕ) → Here v os s → AreStored v os f.value.t f.value.stores × Here v os f.state

-- a state alone
pub record StateGives (v : WholeUnit) (P : Type 0) (s : State) (Q : State → Type 0) (o : Option State) : Type 0 where
  pub held : (t : State) → o ≡ Some t → Moves ⊥ v [] s t × (Later t v → P → IsProperState v s → IsProperState v t × Q t × HasMade v s t)

state-none : (v : WholeUnit) (P : Type 0) (s : State) (Q : State → Type 0) → StateGives v P s Q None
state-none v P s Q = record { held = λ t e. absurd cc }

state-some : (v : WholeUnit) (P : Type 0) (s : State) (Q : State → Type 0) (t : State) → Moves ⊥ v [] s t → (Later t v → P → IsProperState v s → IsProperState v t × Q t × HasMade v s t) → StateGives v P s Q (Some t)
state-some v P s Q t m h = record { held = λ z e. subst (λ y. Moves ⊥ v [] s y × (Later y v → P → IsProperState v s → IsProperState v y × Q y × HasMade v s y)) (some-same t z e) (m, h) }

state-then : {A : Type 0} (v : WholeUnit) (P : Type 0) (s : State) (Q : State → Type 0) (o : Option State) (x : A) → StateGives v P s Q o → Gives ⊥ v [] P s (λ a. Q a.state × (a.value ≡ x)) (and_then o (give (Some x)))
state-then v P s Q None x h = gives-none ⊥ v [] P s (λ a. Q a.state × (a.value ≡ x))
state-then v P s Q (Some t) x h =
    let r = h.held t refl in
    gives-some ⊥ v [] P s (λ a. Q a.state × (a.value ≡ x)) (record { value = x; state = t }) r.0 (λ l p g. let z = r.1 l p g in (z.0, (z.1, refl), z.2))

-- ---- one object

-- what a declaration makes of the object that is next
pub record ObjectIn (v : WholeUnit) (lasting : Bool) (s t : State) : Type 0 where
  pub counted : count s < count t
  pub kind : (object_at t.unit (count s)).lasting ≡ lasting
  pub complete : is_complete_in (env t) (object_at t.unit (count s)).t ≡ true
  pub proper : IsProper v (object_at t.unit (count s)).t
  pub stored : (os : List ℕ) → Here v os s → (lasting ≡ false → IsIn (count s) os) → AreStored v os (object_at t.unit (count s)).t (object_at t.unit (count s)).inits × Here v os t

module _ (v : WholeUnit) (done : IsFinished v) (apart : (o : ℕ) → (object_at v o).name ≢ heap_name)
    (initial : (lasting : Bool) (t : Ty) (i : InitializerTree) (s : State) → InitializerCharacters i → s.unevaluated ≡ false → Gives ⊥ v [] (IsProper v t) s (GivenIn v lasting t s) (typed_initializer lasting t i s)) where
  abbrev fresh_object : ℕ → ℕ → Ty → Bool → TypedObject
  fresh_object n line t lasting = record { name = unit_name n; t = t; line = line; lasting = lasting; braced = false; inits = [] }

  new-moves : (n line : ℕ) (t : Ty) (lasting : Bool) (s : State) → Moves ⊥ v [] s (new_object n line t lasting s)
  new-moves n line t lasting s =
      then-moves ⊥ v [] s (more_object (fresh_object n line t lasting) s) (new_object n line t lasting s) (object-moves v [] done ⊥ (fresh_object n line t lasting) s (identifier-apart (unit_name n) n refl))
      (bind-moves ⊥ v [] n (ObjectName (count s)) (more_object (fresh_object n line t lasting) s) (λ f. absurd f) tt)

  new-at : (n line : ℕ) (t : Ty) (lasting : Bool) (s : State) → object_at (new_object n line t lasting s).unit (count s) ≡ fresh_object n line t lasting
  new-at n line t lasting s = last-at no_object s.unit.objects (fresh_object n line t lasting)

  new-counted : (n line : ℕ) (t : Ty) (lasting : Bool) (s : State) → count s < count (new_object n line t lasting s)
  new-counted n line t lasting s = let l = length-append s.unit.objects (fresh_object n line t lasting ∷ []) in omega (arith, l)

  -- its name is visible from here on
  new-here : (n line : ℕ) (t : Ty) (lasting : Bool) (s : State) → Later (new_object n line t lasting s) v → (os : List ℕ) → Here v os s → (lasting ≡ false → IsIn (count s) os) → Here v os (new_object n line t lasting s)
  new-here n line t lasting s l os h automatic = record {
    evaluated = h.evaluated;
    visible = bind-visible v os n (ObjectName (count s)) (more_object (fresh_object n line t lasting) s)
        (λ e. automatic (sym (l.unit.lasting (count s) (new-counted n line t lasting s) ∙ ap (λ (x : TypedObject). x.lasting) (new-at n line t lasting s)) ∙ e)) h.visible;
  }

  -- 6.2.4p3: one object, and those that its initializer made
  with-made : (lasting : Bool) (s z t : State) (x : TypedObject) → count z ≡ suc (count s) → object_at t.unit (count s) ≡ x → x.lasting ≡ lasting → (Grown v t → lasting ≡ true → IsStatic v x)
      → (Grown v t → (o : ℕ) → count s < o → o < count t → (object_at t.unit o).lasting ≡ true → IsStatic v (object_at t.unit o)) → StaticsMade v s t
  with-made lasting s z t x few at is first others k o from below e = by (either (count s) o from)
    where
      either : (m n : ℕ) → m ≤ n → (m ≡ n) ⊎ (m < n)
      either m n le = grind arith

      by : (count s ≡ o) ⊎ (count s < o) → IsStatic v (object_at t.unit o)
      by (inl q) =
          let same : object_at t.unit o ≡ x = subst (λ i. object_at t.unit i ≡ x) q at in
          subst (IsStatic v) (sym same) (first k (sym is ∙ sym (ap (λ (y : TypedObject). y.lasting) same) ∙ e))
      by (inr lt) = others k o lt below e

  -- 6.7p7: a complete type at the end of the declarator
  plain-object : (n line : ℕ) (t : Ty) (lasting : Bool) (s : State)
      → StateGives v (IsProper v t) s (ObjectIn v lasting s) (if is_complete_in (env (new_object n line t lasting s)) (object_at (new_object n line t lasting s).unit (count s)).t then Some (new_object n line t lasting s) else None)
  plain-object n line t lasting s = by (is_complete_in (env (new_object n line t lasting s)) (object_at (new_object n line t lasting s).unit (count s)).t) refl
    where
      made : is_complete_in (env (new_object n line t lasting s)) (object_at (new_object n line t lasting s).unit (count s)).t ≡ true → Later (new_object n line t lasting s) v → StaticsMade v s (new_object n line t lasting s)
      made e l =
          let few = length-append s.unit.objects (fresh_object n line t lasting ∷ []) in
          with-made lasting s (new_object n line t lasting s) (new_object n line t lasting s) (fresh_object n line t lasting) (omega (arith, few)) (new-at n line t lasting s) refl
          (λ k q. record {
            complete = complete-later (env s) v l.unit.layouts t (subst (λ (x : TypedObject). is_complete_in (env s) x.t ≡ true) (new-at n line t lasting s) e);
            constants = tt;
          })
          (λ k o lt below q. absurd (omega (arith, few, lt, below)))

      by : (b : Bool) → is_complete_in (env (new_object n line t lasting s)) (object_at (new_object n line t lasting s).unit (count s)).t ≡ b
          → StateGives v (IsProper v t) s (ObjectIn v lasting s) (if b then Some (new_object n line t lasting s) else None)
      by false e = state-none v (IsProper v t) s (ObjectIn v lasting s)
      by true e = state-some v (IsProper v t) s (ObjectIn v lasting s) (new_object n line t lasting s) (new-moves n line t lasting s)
          (λ l p g. (
            new-object-proper v n line t lasting s p g,
            record {
              counted = new-counted n line t lasting s;
              kind = ap (λ (x : TypedObject). x.lasting) (new-at n line t lasting s);
              complete = e;
              proper = subst (λ (x : TypedObject). IsProper v x.t) (sym (new-at n line t lasting s)) p;
              stored = λ os h automatic. (
                subst (λ (x : TypedObject). AreStored v os x.t x.inits) (sym (new-at n line t lasting s)) tt,
                new-here n line t lasting s l os h automatic,
              );
            },
            made e l,
          ))

  -- 6.7.9: an object with its initializer: it is made, typed in its own scope, and changed
  given-moves : (s z t : State) (x : Given) → Moves ⊥ v [] s z → count s < count z → Moves ⊥ v [] z t → Moves ⊥ v [] s (with_given (count s) x t)
  given-moves s z t x m few k =
      let w = then-moves ⊥ v [] s z t m k in
      let size = length-set t.unit.objects (count s) (record (object_at t.unit (count s)) { t = x.t; braced = x.braced; inits = (object_at t.unit (count s)).inits ++ x.stores }) in
      let more = w.count in
      record {
        later = λ l. w.later (given-later v (count s) x t l);
        outer = w.outer;
        grows = w.grows;
        names = λ f. absurd f;
        evaluated = w.evaluated;
        functions = w.functions;
        spelled = w.spelled;
        noted = w.noted;
        orderly = λ h. given-orderly (count s) x t (w.orderly h);
        count = omega (arith, size, more);
        older = λ o lt. set-other no_object t.unit.objects (count s) o _ (λ e. beyond o lt e) ∙ w.older o lt;
      }
    where
      beyond : (o : ℕ) → o < count s → count s ≡ o → ⊥
      beyond o lt e = omega (arith, lt, e)

  abbrev changed : Given → TypedObject → TypedObject
  changed x y = record y { t = x.t; braced = x.braced; inits = y.inits ++ x.stores }

  given-at : (o : ℕ) (x : Given) (t : State) → o < count t → object_at (with_given o x t).unit o ≡ changed x (object_at t.unit o)
  given-at o x t lt = set-same no_object t.unit.objects o (changed x (object_at t.unit o)) lt

  -- 6.7.9p22: it is as large as before
  grown-given : (n line : ℕ) (t : Ty) (lasting : Bool) (s : State) (f : After Given) → Moves ⊥ v [] (new_object n line t lasting s) f.state
      → (m : ℕ) × (f.value.t ≡ with_size (object_at (new_object n line t lasting s).unit (count s)).t m) → Grown v (with_given (count s) f.value f.state) → Grown v f.state
  grown-given n line t lasting s f m h k =
      let at = ap (λ (x : TypedObject). x.t) (m.older (count s) (new-counted n line t lasting s)) in
      grown-set v (count s) (changed f.value (object_at f.state.unit (count s))) f.state
      (subst (λ w. or_zero (size_in f.state.unit (object_at f.state.unit (count s)).t) ≤ or_zero (size_in f.state.unit w)) (ap (λ w. with_size w h.0) at ∙ sym h.1) (size-sized (env f.state) (object_at f.state.unit (count s)).t h.0)) k

  -- behind the initializer
  given-end : (n line : ℕ) (t : Ty) (lasting : Bool) (s : State) (f : After Given)
      → Moves ⊥ v [] (new_object n line t lasting s) f.state × (Later f.state v → IsProper v (object_at (new_object n line t lasting s).unit (count s)).t → IsProperState v (new_object n line t lasting s)
      → IsProperState v f.state × GivenIn v lasting (object_at (new_object n line t lasting s).unit (count s)).t (new_object n line t lasting s) f × HasMade v (new_object n line t lasting s) f.state)
      → (b : Bool) → is_complete_in (env f.state) f.value.t ≡ b → StateGives v (IsProper v t) s (ObjectIn v lasting s) (if b then Some (with_given (count s) f.value f.state) else None)
  given-end n line t lasting s f r false c = state-none v (IsProper v t) s (ObjectIn v lasting s)
  given-end n line t lasting s f r true c =
      state-some v (IsProper v t) s (ObjectIn v lasting s) (with_given (count s) f.value f.state) (given-moves s (new_object n line t lasting s) f.state f.value (new-moves n line t lasting s) (new-counted n line t lasting s) r.0)
      (λ l p g.
      let before = given-later v (count s) f.value f.state l in
      let w = r.1 before (subst (λ (x : TypedObject). IsProper v x.t) (sym (new-at n line t lasting s)) p) (new-object-proper v n line t lasting s p g) in
      let few = new-counted n line t lasting s in
      let more = r.0.count in
      let size = length-set f.state.unit.objects (count s) (changed f.value (object_at f.state.unit (count s))) in
      let there : count s < count f.state = omega (arith, few, more) in
      let at : object_at (with_given (count s) f.value f.state).unit (count s) ≡ changed f.value (fresh_object n line t lasting) =
      given-at (count s) f.value f.state there ∙ ap (changed f.value) (r.0.older (count s) few ∙ new-at n line t lasting s) in (
        given-proper v (count s) f.value f.state w.1.proper w.0,
        record {
          counted = omega (arith, there, size);
          kind = ap (λ (x : TypedObject). x.lasting) at;
          complete = ap (λ (x : TypedObject). is_complete_in (env f.state) x.t) at ∙ c;
          proper = subst (λ (x : TypedObject). IsProper v x.t) (sym at) w.1.proper;
          stored = λ os h automatic.
              let k = w.1.stored os (new-here n line t lasting s (r.0.later before) os h automatic) in
              (subst (λ (x : TypedObject). AreStored v os x.t x.inits) (sym at) k.0, record { evaluated = k.1.evaluated; visible = k.1.visible });
        },
        with-made lasting s (new_object n line t lasting s) (with_given (count s) f.value f.state) (changed f.value (fresh_object n line t lasting)) (let k = length-append s.unit.objects (fresh_object n line t lasting ∷ []) in omega (arith, k)) at refl
            (λ k e. record { complete = complete-later (env f.state) v before.unit.layouts f.value.t c; constants = w.1.constant (grown-given n line t lasting s f r.0 w.1.sized k) e })
            (λ k o lt below e.
            let same = set-other no_object f.state.unit.objects (count s) o (changed f.value (object_at f.state.unit (count s))) (λ q. omega (arith, lt, q)) in
            let few = length-append s.unit.objects (fresh_object n line t lasting ∷ []) in
            subst (IsStatic v) (sym same) (w.2 (grown-given n line t lasting s f r.0 w.1.sized k) o (omega (arith, few, lt)) (omega (arith, size, below)) (sym (ap (λ (x : TypedObject). x.lasting) same) ∙ e))),
      ))

  given-object : (n line : ℕ) (t : Ty) (lasting : Bool) (s : State) (o : Option (After Given))
      → Gives ⊥ v [] (IsProper v (object_at (new_object n line t lasting s).unit (count s)).t) (new_object n line t lasting s) (GivenIn v lasting (object_at (new_object n line t lasting s).unit (count s)).t (new_object n line t lasting s)) o
      → StateGives v (IsProper v t) s (ObjectIn v lasting s) (and_then o (λ f. if is_complete_in (env f.state) f.value.t then Some (with_given (count s) f.value f.state) else None))
  given-object n line t lasting s None h = state-none v (IsProper v t) s (ObjectIn v lasting s)
  given-object n line t lasting s (Some f) h = given-end n line t lasting s f (h.held f refl) (is_complete_in (env f.state) f.value.t) refl

  initialized-object : (n line : ℕ) (t : Ty) (lasting : Bool) (i : OptionalTree) (s : State) → OptionalCharacters i → s.unevaluated ≡ false
      → StateGives v (IsProper v t) s (ObjectIn v lasting s) (with_initializer lasting (count s) i (new_object n line t lasting s))
  initialized-object n line t lasting Absent s c ev = plain-object n line t lasting s
  initialized-object n line t lasting (Present (OfInitializer i)) s c ev =
      given-object n line t lasting s (typed_initializer lasting (object_at (new_object n line t lasting s).unit (count s)).t i (new_object n line t lasting s))
      (initial lasting (object_at (new_object n line t lasting s).unit (count s)).t i (new_object n line t lasting s) c ev)
  initialized-object n line t lasting (Present (OfExpression x)) s c ev = state-none v (IsProper v t) s (ObjectIn v lasting s)
  initialized-object n line t lasting (Present (OfDeclaration x)) s c ev = state-none v (IsProper v t) s (ObjectIn v lasting s)
  initialized-object n line t lasting (Present (OfDeclarator x)) s c ev = state-none v (IsProper v t) s (ObjectIn v lasting s)
  initialized-object n line t lasting (Present (OfSpecifier x)) s c ev = state-none v (IsProper v t) s (ObjectIn v lasting s)
  initialized-object n line t lasting (Present (OfStatement x)) s c ev = state-none v (IsProper v t) s (ObjectIn v lasting s)

  -- 6.7p3, 6.2.1p7
  object-gives : (lasting : Bool) (t : Ty) (n : ℕ × ℕ) (i : OptionalTree) (s : State) → OptionalCharacters i → s.unevaluated ≡ false → StateGives v (IsProper v t) s (ObjectIn v lasting s) (block_object lasting t n i s)
  object-gives lasting t n i s c ev = by (is_some (find (innermost_scope s.scopes).names n.0))
    where
      by : (b : Bool) → StateGives v (IsProper v t) s (ObjectIn v lasting s) (if b then None else with_initializer lasting (count s) i (new_object n.0 n.1 t lasting s))
      by true = state-none v (IsProper v t) s (ObjectIn v lasting s)
      by false = initialized-object n.0 n.1 t lasting i s c ev

  -- ---- declarators

  abbrev pub numbers : List Reached → List ℕ
  numbers [] = []
  numbers (x ∷ xs) = x.object ∷ numbers xs

  numbers-append : (xs ys : List Reached) → numbers (xs ++ ys) ≡ numbers xs ++ numbers ys
  numbers-append [] ys = refl
  numbers-append (x ∷ xs) ys = ap (λ ns. x.object ∷ ns) (numbers-append xs ys)

  -- the objects with automatic storage that declarators declare from s on: each new, once, and as a declaration asks
  pub record ReachedIn (s : State) (a : After (List Reached)) : Type 0 where
    pub fresh : Each (λ o. (count s ≤ o) × (o < count a.state)) (numbers a.value)
    pub once : AreNew (numbers a.value) []
    pub made : Kept v a.state → Each (IsMakeable v false) (numbers a.value)
    pub declared : Kept v a.state → (os : List ℕ) → Here v os s → AreIn (numbers a.value) os → Each (IsDeclared v os) (numbers a.value) × Here v os a.state

  -- where nothing is reached
  none-reached : (s t : State) → ((os : List ℕ) → Here v os s → Here v os t) → ReachedIn s (record { value = []; state = t })
  none-reached s t keep = record { fresh = tt; once = tt; made = λ k. tt; declared = λ k os h i. (tt, keep os h) }

  once-more : (ns : List ℕ) (o : ℕ) → Each (λ n. n < o) ns → AreNew ns [] → AreNew (ns ++ (o ∷ [])) []
  once-more [] o less once = (λ h. h, tt)
  once-more (n ∷ ns) o less once = (λ h. by (in-append ns (o ∷ []) n (subst (IsIn n) (append-nil (ns ++ (o ∷ []))) h)), once-more ns o less.1 once.1)
    where
      same : n ≡ o → ⊥
      same e = let l = less.0 in omega (arith, l, e)

      by : IsIn n ns ⊎ IsIn n (o ∷ []) → ⊥
      by (inl k) = once.0 (subst (IsIn n) (sym (append-nil ns)) k)
      by (inr (inl e)) = same e
      by (inr (inr k)) = k

  at-end : (lasting : Bool) (s t : State) → Kept v t → lasting ≡ false → ObjectIn v lasting s t → object_at v (count s) ≡ object_at t.unit (count s)
  at-end lasting s t kept e h = kept (count s) h.counted (h.kind ∙ e)

  -- one automatic object
  makeable : (lasting : Bool) (s t : State) → Later t v → Kept v t → lasting ≡ false → ObjectIn v lasting s t → IsMakeable v false (count s)
  makeable lasting s t l kept e h =
      let at = at-end lasting s t kept e h in
      let complete : is_complete_in (layouts v) (object_at v (count s)).t ≡ true =
      ap (λ (x : TypedObject). is_complete_in (layouts v) x.t) at ∙ complete-later (env t) v l.unit.layouts (object_at t.unit (count s)).t h.complete in
      record {
        storage = ap (λ (x : TypedObject). x.lasting) at ∙ h.kind ∙ e;
        complete = complete;
        small = small v done (object_at v (count s)).t (subst (λ (x : TypedObject). IsProper v x.t) (sym at) h.proper) complete;
        named = apart (count s);
      }

  stored-at : (os : List ℕ) (x y : TypedObject) → x ≡ y → AreStored v os y.t y.inits → AreStored v os x.t x.inits
  stored-at os x y e h = subst (λ (z : TypedObject). AreStored v os z.t z.inits) (sym e) h

  -- of a static object nothing is reached
  static-reached : (s t u : State) (r : After (List Reached)) → Moves ⊥ v [] r.state u → r.state ≡ r.state → ReachedIn s r → ((os : List ℕ) → Here v os r.state → Here v os t) → ObjectIn v true t u → ReachedIn s (record { value = r.value; state = u })
  static-reached s t u r m same h keep o = record {
    fresh = each_weaker (λ n. (count s ≤ n) × (n < count r.state)) (λ n. (count s ≤ n) × (n < count u)) (λ n q. (q.0, more n q.1)) (numbers r.value) h.fresh;
    once = h.once;
    made = λ k. h.made (kept-before v r.state u m k);
    declared = λ k os here i. let z = h.declared (kept-before v r.state u m k) os here i in (z.0, (o.stored os (keep os z.1) (λ e. absurd (no-static e))).1);
  }
    where
      more : (n : ℕ) → n < count r.state → n < count u
      more n q = let c = m.count in omega (arith, c, q)

      no-static : true ≡ false → ⊥
      no-static e = absurd cc

  automatic-reached : (s t u : State) (r : After (List Reached)) (line : ℕ) → Moves ⊥ v [] s r.state → Moves ⊥ v [] r.state t → Moves ⊥ v [] r.state u → Later u v → ReachedIn s r → ((os : List ℕ) → Here v os r.state → Here v os t) → ObjectIn v false t u
      → ReachedIn s (record { value = r.value ++ (record { object = count t; line = line } ∷ []); state = u })
  automatic-reached s t u r line i j m l h keep o = record {
    fresh = subst (Each (λ n. (count s ≤ n) × (n < count u))) (sym both)
        (each_append (λ n. (count s ≤ n) × (n < count u)) (numbers r.value) (count t ∷ []) (each_weaker (λ n. (count s ≤ n) × (n < count r.state)) (λ n. (count s ≤ n) × (n < count u)) (λ n q. (q.0, more n q.1)) (numbers r.value) h.fresh) ((from, o.counted), tt));
    once = subst (λ ns. AreNew ns []) (sym both) (once-more (numbers r.value) (count t) (each_weaker (λ n. (count s ≤ n) × (n < count r.state)) (λ n. n < count t) (λ n q. less n q.1) (numbers r.value) h.fresh) h.once);
    made = λ k. subst (Each (IsMakeable v false)) (sym both) (each_append (IsMakeable v false) (numbers r.value) (count t ∷ []) (h.made (kept-before v r.state u m k)) (makeable false t u l k refl o, tt));
    declared = λ k os here all.
        let inside = subst (λ ns. AreIn ns os) both all in
        let z = h.declared (kept-before v r.state u m k) os here (each_left (λ d. IsIn d os) (numbers r.value) (count t ∷ []) inside) in
        let here-is = (each_right (λ d. IsIn d os) (numbers r.value) (count t ∷ []) inside).0 in
        let w = o.stored os (keep os z.1) (λ e. here-is) in (
          subst (Each (IsDeclared v os)) (sym both)
              (each_append (IsDeclared v os) (numbers r.value) (count t ∷ []) z.0 ((here-is, makeable false t u l k refl o, stored-at os (object_at v (count t)) (object_at u.unit (count t)) (at-end false t u k refl o) w.0), tt)),
          w.1,
        );
  }
    where
      both : numbers (r.value ++ (record { object = count t; line = line } ∷ [])) ≡ numbers r.value ++ (count t ∷ [])
      both = numbers-append r.value (record { object = count t; line = line } ∷ [])

      more : (n : ℕ) → n < count r.state → n < count u
      more n q = let c = m.count in omega (arith, c, q)

      less : (n : ℕ) → n < count r.state → n < count t
      less n q = let c = j.count in omega (arith, c, q)

      from : count s ≤ count t
      from = let a = i.count in let b = j.count in omega (arith, a, b)

  -- ---- one declarator

  abbrev IsDeclaredType : After DeclaredType → Type 0
  IsDeclaredType a = is_function a.value.t ≡ false → IsProper v a.value.t

  abbrev Keeps : {A : Type 0} → State → After A → Type 0
  Keeps s a = (os : List ℕ) → Here v os s → Here v os a.state

  type-gives-in : (unsized : Bool) (t : Ty) (d : DeclaratorTree) (s : State) (os : List ℕ) → Gives U v os (IsProper v t) s IsDeclaredType (type_declared unsized t d s)
  type-gives-in unsized t d s os =
      gives-then U v os (IsProper v t) s (AreNamedSteps v os done (is_file_scope s) d) IsDeclaredType (steps d s) (λ a. give (and_then (derived_type unsized (env a.state) a.value.list t) (with_unsized (has_unsized a.value.list))) a.state)
      (gives-weaker U U U (IsProper v t) v os s (AreNamedSteps v os done (is_file_scope s) d) (AreNamedSteps v os done (is_file_scope s) d) (steps d s) (λ f. f) (λ p. tt) (λ a q. q) (steps-give v os done d s))
      (λ a m. gives-here U v os (IsProper v t × AreNamedSteps v os done (is_file_scope s) d a) a.state IsDeclaredType (and_then (derived_type unsized (env a.state) a.value.list t) (with_unsized (has_unsized a.value.list)))
      (λ x e l p g.
      let k = from-some (derived_type unsized (env a.state) a.value.list t) (with_unsized (has_unsized a.value.list)) x e in
      as-made (λ (y : DeclaredType). is_function y.t ≡ false → IsProper v y.t) (record { t = k.0; unsized = has_unsized a.value.list }) x
      (λ f. derived-named v (env a.state) l.unit.layouts unsized a.value.list t k.0 p.1.0.behind p.0 k.1 f) k.2))

  specified-gives-in : (specs : Trees) (s : State) (os : List ℕ) → Gives U v os U s (λ (a : After Specified). IsProper v a.value.t) (specified_by specs s)
  specified-gives-in specs s os =
      gives-then U v os U s (IsSeen v os done) (λ (a : After Specified). IsProper v a.value.t) (specifiers specs s) (λ a. give (specification_of a.value) a.state) (specifiers-give v os done specs s)
      (λ a m. gives-here U v os (U × IsSeen v os done a) a.state (λ (b : After Specified). IsProper v b.value.t) (specification_of a.value) (λ x e l p g. specified-proper v a.value x p.1 e))

  one-declared : (lasting : Bool) (t : Ty) (s : State) (r : After (List Reached)) (a : After DeclaredType) (n : ℕ × ℕ) → Moves ⊥ v [] s r.state → Moves ⊥ v [] r.state a.state → (o : Option State) → StateGives v (IsProper v a.value.t) a.state (ObjectIn v lasting a.state) o → is_function a.value.t ≡ false
      → Gives ⊥ v [] ((IsProper v t × ReachedIn s r) × (IsDeclaredType a × Keeps r.state a)) a.state (ReachedIn s) (and_then o (give (Some (r.value ++ reached_object lasting (count a.state) n))))
  one-declared lasting t s r a n i j None h f = gives-none ⊥ v [] _ a.state (ReachedIn s)
  one-declared lasting t s r a n i j (Some u) h f =
      let z = h.held u refl in
      gives-some ⊥ v [] _ a.state (ReachedIn s) (record { value = r.value ++ reached_object lasting (count a.state) n; state = u }) z.0
      (λ l p g. let w = z.1 l (p.1.0 f) g in (w.0, ends lasting l p.0.1 p.1.1 z.0 w.1, w.2))
    where
      ends : (b : Bool) → Later u v → ReachedIn s r → ((os : List ℕ) → Here v os r.state → Here v os a.state) → Moves ⊥ v [] a.state u → ObjectIn v b a.state u → ReachedIn s (record { value = r.value ++ reached_object b (count a.state) n; state = u })
      ends true l q keep m o =
          subst (λ xs. ReachedIn s (record { value = xs; state = u })) (sym (append-nil r.value)) (static-reached s a.state u r (then-moves ⊥ v [] r.state a.state u j m) refl q keep o)
      ends false l q keep m o = automatic-reached s a.state u r n.1 i j (then-moves ⊥ v [] r.state a.state u j m) l q keep o

  declarator-gives : (lasting : Bool) (t : Ty) (d : DeclaratorTree) (i : OptionalTree) (s : State) (r : After (List Reached)) → OptionalCharacters i → r.state.unevaluated ≡ false → Moves ⊥ v [] s r.state
      → Gives ⊥ v [] (IsProper v t × ReachedIn s r) r.state (ReachedIn s) (block_declarator lasting t d i r)
  declarator-gives lasting t d i s r c ev m =
      gives-value ⊥ v [] (IsProper v t × ReachedIn s r) r.state (ReachedIn s) (declared_name d) _
      (λ n e. gives-then ⊥ v [] (IsProper v t × ReachedIn s r) r.state (λ a. IsDeclaredType a × Keeps r.state a) (ReachedIn s) (type_declared (is_present i) t d r.state) _
      (gives-weaker ⊥ ⊥ (IsProper v t) (IsProper v t × ReachedIn s r) v [] r.state (λ a. IsDeclaredType a × Keeps r.state a) (λ a. IsDeclaredType a × Keeps r.state a) (type_declared (is_present i) t d r.state) (λ f. f) (λ p. p.0) (λ a q. q)
      (always-gives v (IsProper v t) r.state IsDeclaredType (type_declared (is_present i) t d r.state) (type-gives-in (is_present i) t d r.state)))
      (λ a k. gives-unless ⊥ v [] ((IsProper v t × ReachedIn s r) × (IsDeclaredType a × Keeps r.state a)) a.state (ReachedIn s) (is_function a.value.t) _
      (λ f. one-declared lasting t s r a n m k (block_object lasting a.value.t n i a.state) (object-gives lasting a.value.t n i a.state c (k.evaluated ∙ ev)) f)))

  init-gives : (lasting : Bool) (t : Ty) (x : Tree) (s : State) (r : After (List Reached)) → TreeCharacters x → r.state.unevaluated ≡ false → Moves ⊥ v [] s r.state → Gives ⊥ v [] (IsProper v t × ReachedIn s r) r.state (ReachedIn s) (block_init_declarator lasting t x r)
  init-gives lasting t (OfDeclaration (InitDeclarator line d i)) s r c ev m = declarator-gives lasting t d i s r c ev m
  init-gives lasting t (OfDeclaration (FunctionTree line specs d b)) s r c ev m = gives-none ⊥ v [] (IsProper v t × ReachedIn s r) r.state (ReachedIn s)
  init-gives lasting t (OfDeclaration (Declaration line specs ds)) s r c ev m = gives-none ⊥ v [] (IsProper v t × ReachedIn s r) r.state (ReachedIn s)
  init-gives lasting t (OfDeclaration (MemberDeclaration line specs ds)) s r c ev m = gives-none ⊥ v [] (IsProper v t × ReachedIn s r) r.state (ReachedIn s)
  init-gives lasting t (OfDeclaration (Enumerator line n x)) s r c ev m = gives-none ⊥ v [] (IsProper v t × ReachedIn s r) r.state (ReachedIn s)
  init-gives lasting t (OfDeclaration (Parameter line specs d)) s r c ev m = gives-none ⊥ v [] (IsProper v t × ReachedIn s r) r.state (ReachedIn s)
  init-gives lasting t (OfDeclaration (TypeName line specs d)) s r c ev m = gives-none ⊥ v [] (IsProper v t × ReachedIn s r) r.state (ReachedIn s)
  init-gives lasting t (OfExpression x) s r c ev m = gives-none ⊥ v [] (IsProper v t × ReachedIn s r) r.state (ReachedIn s)
  init-gives lasting t (OfDeclarator x) s r c ev m = gives-none ⊥ v [] (IsProper v t × ReachedIn s r) r.state (ReachedIn s)
  init-gives lasting t (OfSpecifier x) s r c ev m = gives-none ⊥ v [] (IsProper v t × ReachedIn s r) r.state (ReachedIn s)
  init-gives lasting t (OfInitializer x) s r c ev m = gives-none ⊥ v [] (IsProper v t × ReachedIn s r) r.state (ReachedIn s)
  init-gives lasting t (OfStatement x) s r c ev m = gives-none ⊥ v [] (IsProper v t × ReachedIn s r) r.state (ReachedIn s)

  declarators-give : (ds : Trees) (lasting : Bool) (t : Ty) (s : State) → TreesCharacters ds → s.unevaluated ≡ false → Gives ⊥ v [] (IsProper v t) s (ReachedIn s) (block_declarators ds lasting t s)
  declarators-give NoTrees lasting t s c ev = gives-here ⊥ v [] (IsProper v t) s (ReachedIn s) (Some []) (λ x e l p g. as-made (λ xs. ReachedIn s (record { value = xs; state = s })) [] x (none-reached s s (λ os h. h)) e)
  declarators-give (Then before x) lasting t s c ev =
      gives-then ⊥ v [] (IsProper v t) s (ReachedIn s) (ReachedIn s) (block_declarators before lasting t s) (block_init_declarator lasting t x) (declarators-give before lasting t s c.0 ev) (λ r m. init-gives lasting t x s r c.1 (m.evaluated ∙ ev) m)

  -- ---- declarations

  -- what was typed before, with what it leaves visible
  reached-from : (s : State) (a : After Specified) (x : After (List Reached)) → Moves ⊥ v [] s a.state → Keeps s a → ReachedIn a.state x → ReachedIn s x
  reached-from s a x m keep h = record {
    fresh = each_weaker (λ n. (count a.state ≤ n) × (n < count x.state)) (λ n. (count s ≤ n) × (n < count x.state)) (λ n q. (less n q.0, q.1)) (numbers x.value) h.fresh;
    once = h.once;
    made = h.made;
    declared = λ k os here i. h.declared k os (keep os here) i;
  }
    where
      less : (n : ℕ) → count a.state ≤ n → count s ≤ n
      less n q = let c = m.count in omega (arith, c, q)

  declared-gives : (specs ds : Trees) (s : State) → TreesCharacters ds → s.unevaluated ≡ false → Gives ⊥ v [] U s (ReachedIn s) (block_declared specs ds s)
  declared-gives specs ds s c ev =
      gives-then ⊥ v [] U s (λ (a : After Specified). IsProper v a.value.t × Keeps s a) (ReachedIn s) (specified_by specs s) _ (always-gives v U s (λ (a : After Specified). IsProper v a.value.t) (specified_by specs s) (specified-gives-in specs s))
      (λ a m. gives-value ⊥ v [] (U × (IsProper v a.value.t × Keeps s a)) a.state (ReachedIn s) (block_storage a.value.storage) _
      (λ lasting e. record { held = λ x q. let r = (declarators-give ds lasting a.value.t a.state c (m.evaluated ∙ ev)).held x q in (r.0, λ l p g. let z = r.1 l p.1.0 g in (z.0, reached-from s a x m p.1.1 z.1, z.2)) }))

  -- 6.7.2.3p7: a tag alone
  composite-alone : (u : Bool) (n : ℕ) (s : State) (o : Option (After Ty)) → Gives ⊥ v [] U s (λ (a : After Ty). IsProper v a.value × Keeps s a) o → Gives ⊥ v [] U s (ReachedIn s) (and_then (and_then o (λ (a : After Ty). Some a.state)) (give (Some [])))
  composite-alone u n s None h = gives-none ⊥ v [] U s (ReachedIn s)
  composite-alone u n s (Some a) h =
      let r = h.held a refl in
      gives-some ⊥ v [] U s (ReachedIn s) (record { value = []; state = a.state }) r.0 (λ l p g. let z = r.1 l p g in (z.0, none-reached s a.state z.1.1, z.2))

  composite-keeps : (u : Bool) (n : ℕ) (s : State) → Gives ⊥ v [] U s (λ (a : After Ty). IsProper v a.value × Keeps s a) (composite_named u n (find (innermost_scope s.scopes).tags n) s)
  composite-keeps u n s =
      always-gives v U s (λ (a : After Ty). IsProper v a.value) (composite_named u n (find (innermost_scope s.scopes).tags n) s)
      (λ os. composite-gives U v os U u n (find (innermost_scope s.scopes).tags n) s (λ g k e. inner-tag v s g n k e))

  tag-alone : (w : Word) (n : ℕ) (s : State) → Gives ⊥ v [] U s (ReachedIn s) (and_then (tag_alone w n s) (give (Some [])))
  tag-alone word.Struct n s = composite-alone false n s (composite_named false n (find (innermost_scope s.scopes).tags n) s) (composite-keeps false n s)
  tag-alone word.Union n s = composite-alone true n s (composite_named true n (find (innermost_scope s.scopes).tags n) s) (composite-keeps true n s)
  tag-alone _ n s = gives-none ⊥ v [] U s (ReachedIn s)

  alone-gives : (tag : Option (Word × ℕ)) (specs : Trees) (s : State) → Gives ⊥ v [] U s (ReachedIn s) (block_alone tag specs s)
  alone-gives (Some (w, n)) specs s = tag-alone w n s
  alone-gives None specs s =
      gives-then ⊥ v [] U s (λ (a : After Specified). IsProper v a.value.t × Keeps s a) (ReachedIn s) (specified_by specs s) _ (always-gives v U s (λ (a : After Specified). IsProper v a.value.t) (specified_by specs s) (specified-gives-in specs s))
      (λ a m. gives-value ⊥ v [] (U × (IsProper v a.value.t × Keeps s a)) a.state (ReachedIn s) (block_storage a.value.storage) _ (λ lasting e. by a (declares_something specs s a.state)))
    where
      by : (a : After Specified) (b : Bool) → Gives ⊥ v [] (U × (IsProper v a.value.t × Keeps s a)) a.state (ReachedIn s) (and_then (if b then Some a else None) (λ (c : After Specified). give (Some []) c.state))
      by a true = gives-here ⊥ v [] (U × (IsProper v a.value.t × Keeps s a)) a.state (ReachedIn s) (Some []) (λ x e l p g. as-made (λ xs. ReachedIn s (record { value = xs; state = a.state })) [] x (none-reached s a.state p.1.1) e)
      by a false = gives-none ⊥ v [] (U × (IsProper v a.value.t × Keeps s a)) a.state (ReachedIn s)

  -- 6.8.2p1: a declaration in a block
  pub declaration-gives : (d : DeclarationTree) (s : State) → DeclarationCharacters d → s.unevaluated ≡ false → Gives ⊥ v [] U s (ReachedIn s) (block_declaration d s)
  declaration-gives (Declaration line specs NoTrees) s c ev = alone-gives (only_tag specs) specs s
  declaration-gives (Declaration line specs (Then before x)) s c ev = declared-gives specs (Then before x) s c ev
  declaration-gives (FunctionTree line specs d b) s c ev = gives-none ⊥ v [] U s (ReachedIn s)
  declaration-gives (InitDeclarator line d i) s c ev = gives-none ⊥ v [] U s (ReachedIn s)
  declaration-gives (MemberDeclaration line specs ds) s c ev = gives-none ⊥ v [] U s (ReachedIn s)
  declaration-gives (Enumerator line n x) s c ev = gives-none ⊥ v [] U s (ReachedIn s)
  declaration-gives (Parameter line specs d) s c ev = gives-none ⊥ v [] U s (ReachedIn s)
  declaration-gives (TypeName line specs d) s c ev = gives-none ⊥ v [] U s (ReachedIn s)

  -- what a declaration reaches, as items of a block
  numbers-declared : (xs : List Reached) → declared_in (declares xs) ≡ numbers xs
  numbers-declared [] = refl
  numbers-declared (x ∷ xs) = ap (λ ns. x.object ∷ ns) (numbers-declared xs)

  declares-typed : (r : Ty) (os : List ℕ) (xs : List Reached) → Each (IsDeclared v os) (numbers xs) → guards.AreTypedStatements v r os (statements_of (declares xs))
  declares-typed r os [] h = tt
  declares-typed r os (x ∷ xs) h = (h.0, declares-typed r os xs h.1)

  pub reached-items : (r : Ty) (s : State) (a : After (List Reached)) → ReachedIn s a → ItemsIn v r s (record { value = declares a.value; state = a.state })
  reached-items r s a h = record {
    fresh = subst (Each (λ o. (count s ≤ o) × (o < count a.state))) (sym (numbers-declared a.value)) h.fresh;
    once = subst (λ ns. AreNew ns []) (sym (numbers-declared a.value)) h.once;
    made = λ k. subst (Each (IsMakeable v false)) (sym (numbers-declared a.value)) (h.made k);
    typed = λ k os here i others. let z = h.declared k os here (subst (λ ns. AreIn ns os) (numbers-declared a.value) i) in (declares-typed r os a.value z.0, z.1);
  }
