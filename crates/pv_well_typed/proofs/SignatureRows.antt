-- The list of parameters of a function that is defined (C17 6.7.6.3, 6.9.1p5 to p9): each has an object of its type, each object stands once, and the
-- names of the list's scope stand for these.
use Rattle.std.proofs.Common.{◌≡◌, ℕ, ◌<◌, ◌≤◌, ◌-◌, ◌+◌, Bool, true, false, ◌&&◌, not, Option, Some, None, is_some, List, [], ◌∷◌, ◌++◌, length, refl, sym, ap, subst, ◌∙◌, arith, append-nil, append_assoc, length-append, ◌⊎◌, inl, inr}
use Rattle.std.specs.Prelude.{if◌then◌else◌, nat_lt}
use Rattle.pv_tree.specs.Syntax.{Function as FunctionTree, Declaration, InitDeclarator, MemberDeclaration, Enumerator, Parameter, TypeName, DeclaratorTree, DeclaredName, ParenDeclarator, Pointer, Array, FunctionDeclarator, AbstractParen, AbstractPointer, AbstractArray, AbstractFunction, Tree, OfExpression, OfDeclaration, OfDeclarator, OfSpecifier, OfInitializer, OfStatement, Trees, NoTrees, Then, OptionalTree}
use Rattle.pv_types.specs.Adjusted.{is_adjusted}
use Rattle.pv_types.specs.Ty.{Ty, VoidTy, IntTy, PointerTo, ArrayOf, StructTag, UnionTag, FunctionTy, ConstOf}
use Rattle.pv_typed.specs.Known.{Each}
use Rattle.pv_typed.proofs.Each.{each_append, each_weaker, each_left, each_right}
use Rattle.pv_typed.specs.TypedUnits.{WholeUnit, TypedObject, TypedFunction, object_at}
use Rattle.pv_typed.specs.UnitParts.{no_object}
use Rattle.pv_check.specs.Derivations.{Derivation, ByPointer, ByArray, ByFunction, Parameter as OneParameter, Signature, Steps, no_steps, with_step, with_function, nearest_parameters, parameter_types, declared_name, optional_name, derived_type, adjustment_of, with_parameter, means_none, no_void, proper_parameters, may_be_variadic}
use Rattle.pv_check.specs.Rows.{type_without_storage}
use Rattle.pv_check.specs.RowParts.{by_pointer, by_array, by_function, parameter_of}
use Rattle.pv_check.specs.Sorts.{is_array}
use Rattle.pv_types.specs.Sorts.{is_void_in}
use Rattle.pv_check.specs.Specifiers.{specification_of}
use Rattle.pv_check.specs.SpecifierParts.{without_storage}
use Rattle.pv_check.specs.State.{State, After, Scope, Meaning, ObjectName, give, env}
use Rattle.pv_check.specs.Scopes.{no_scope, innermost_scope, find, bind, in_new_scope, behind_scope}
use Rattle.pv_typed.specs.Constants.{and_then}
use Rattle.pv_check.specs.Typing.{specifiers, steps, optional_steps, array_size, parameters, parameter_in}
use Rattle.pv_guards.specs.Typed.{IsIn}
use Rattle.pv_guards.specs.TypedStatements.{AreNew}
use Rattle.pv_well_typed.specs.Later.{IsFinished, Later}
use Rattle.pv_well_typed.specs.Proper.{IsProper}
use Rattle.pv_well_typed.specs.ProperStates.{IsScope, IsProperState, IsVisible, AreVisible}
use Rattle.pv_well_typed.proofs.Operands.{some-same}
use Rattle.pv_well_typed.proofs.UnaryRows.{both-true}
use Rattle.pv_well_typed.proofs.PrimaryRows.{each-at, last-at}
use Rattle.pv_well_typed.proofs.Changes.{more_object, bind-visible, inner-scope, entered-proper}
use Rattle.pv_well_typed.proofs.Moving.{identifier-apart, AreKnownNames, Orderly, Moves, same-moves, then-moves, left-moves, entered-orderly}
use Rattle.pv_well_typed.proofs.DeclaredTypes.{from-some}
use Rattle.pv_well_typed.proofs.TagRows.{bind-moves}
use Rattle.pv_well_typed.proofs.Walk.{U, inner-file, object-moves, specifiers-give, steps-give, optional-give, size-gives, parameters-give}
use Rattle.pv_well_typed.proofs.StatementWalk.{count, AreIn, in-append}

-- the objects of parameters that have names
abbrev pub some-object : Option ℕ → List ℕ
some-object None = []
some-object (Some o) = o ∷ []

abbrev pub objects-of : List OneParameter → List ℕ
objects-of [] = []
objects-of (p ∷ ps) = some-object p.object ++ objects-of ps

objects-append : (ps qs : List OneParameter) → objects-of (ps ++ qs) ≡ objects-of ps ++ objects-of qs
objects-append [] qs = refl
objects-append (p ∷ ps) qs = ap (λ os. some-object p.object ++ os) (objects-append ps qs) ∙ sym (append_assoc (some-object p.object) (objects-of ps) (objects-of qs))

-- a parameter whose object was made between two states
pub record IsMadeIn (s t : State) (p : OneParameter) : Type 0 where
  pub named : is_some p.object ≡ is_some p.name
  pub held : is_array p.t ≡ false
  pub made : (o : ℕ) → p.object ≡ Some o → (count s ≤ o) × (o < count t) × ((object_at t.unit o).t ≡ p.t) × ((object_at t.unit o).lasting ≡ false)

made-later : (v : WholeUnit) (F : Type 0) (os : List ℕ) (s t w : State) (p : OneParameter) → Moves F v os t w → IsMadeIn s t p → IsMadeIn s w p
made-later v F os s t w p m h = record {
  named = h.named;
  held = h.held;
  made = λ o e.
      let q = h.made o e in
      let below = q.1 in
      let more = m.count in
      let same = m.older o q.1 in
      (q.0, omega (arith, below, more), ap (λ (x : TypedObject). x.t) same ∙ q.2, ap (λ (x : TypedObject). x.lasting) same ∙ q.3);
}

-- a list of parameters that was typed from s on
pub record ParametersIn (v : WholeUnit) (os : List ℕ) (s : State) (a : After (List OneParameter)) : Type 0 where
  pub moved : Moves ⊥ v os s a.state
  pub made : Each (IsMadeIn s a.state) a.value
  pub below : Each (λ o. o < count a.state) (objects-of a.value)
  pub once : AreNew (objects-of a.value) []
  pub visible : AreIn (objects-of a.value) os → AreVisible v os s.scopes → AreVisible v os a.state.scopes

once-more : (ns : List ℕ) (o : ℕ) → Each (λ n. n < o) ns → AreNew ns [] → AreNew (ns ++ (o ∷ [])) []
once-more [] o less once = (λ h. h, tt)
once-more (n ∷ ns) o less once = (λ h. by (in-append ns (o ∷ []) n (subst (IsIn n) (append-nil (ns ++ (o ∷ []))) h)), once-more ns o less.1 once.1)
  where
    same : n ≡ o → ⊥
    same e = let l = less.0 in omega (arith, l, e)

    by : IsIn n ns ⊎ IsIn n (o ∷ []) → ⊥
    by (inl k) = once.0 (subst (IsIn n) (sym (append-nil ns)) k)
    by (inr (inl e)) = same e
    by (inr (inr k)) = k

-- 6.7.6.3p7, p8: a parameter is no array
adjusted-held : (t u : Ty) → adjustment_of t ≡ Some u → is_array u ≡ false
adjusted-held (ArrayOf t n) u e = subst (λ w. is_array w ≡ false) (some-same (PointerTo t) u e) refl
adjusted-held (FunctionTy t ts c) u e = subst (λ w. is_array w ≡ false) (some-same (PointerTo (FunctionTy t ts c)) u e) refl
adjusted-held (ConstOf t) u e = by (is_adjusted t) e
  where
    by : (b : Bool) → (if b then Some (ConstOf t) else None) ≡ Some u → is_array u ≡ false
    by true q = subst (λ w. is_array w ≡ false) (some-same (ConstOf t) u q) refl
    by false q = absurd cc
adjusted-held VoidTy u e = subst (λ w. is_array w ≡ false) (some-same VoidTy u e) refl
adjusted-held (IntTy k) u e = subst (λ w. is_array w ≡ false) (some-same (IntTy k) u e) refl
adjusted-held (PointerTo t) u e = subst (λ w. is_array w ≡ false) (some-same (PointerTo t) u e) refl
adjusted-held (StructTag n) u e = subst (λ w. is_array w ≡ false) (some-same (StructTag n) u e) refl
adjusted-held (UnionTag n) u e = subst (λ w. is_array w ≡ false) (some-same (UnionTag n) u e) refl

pub given-state : {A : Type 0} (o : Option A) (s : State) (a : After A) → give o s ≡ Some a → (o ≡ Some a.value) × (s ≡ a.state)
given-state None s a e = absurd cc
given-state (Some x) s a e = let same = some-same (record { value = x; state = s }) a e in (ap (λ (b : After _). Some b.value) same, ap (λ (b : After _). b.state) same)

weaker-moves : (F G : Type 0) (v : WholeUnit) (os : List ℕ) (s t : State) → (G → F) → Moves F v os s t → Moves G v os s t
weaker-moves F G v os s t f m = record { later = m.later; outer = m.outer; grows = m.grows; names = λ g. m.names (f g); evaluated = m.evaluated; functions = m.functions; spelled = m.spelled; noted = m.noted; orderly = m.orderly; count = m.count; older = m.older }

module _ (v : WholeUnit) (os : List ℕ) (done : IsFinished v) where
  -- ---- one parameter more

  abbrev named-object : ℕ → ℕ → Ty → TypedObject
  named-object n line t = record { name = n + 2; t = t; line = line; lasting = false; braced = false; inits = [] }

  -- b: the parameters before it; c: the state behind its declarator
  with-nameless : (s : State) (b : After (List OneParameter)) (c : State) (t : Ty) → is_array t ≡ false → Moves U v os b.state c → ParametersIn v os s b
      → ParametersIn v os s (record { value = b.value ++ (record { t = t; name = None; object = None } ∷ []); state = c })
  with-nameless s b c t held m h = record {
    moved = then-moves ⊥ v os s b.state c h.moved (weaker-moves U ⊥ v os b.state c (λ f. absurd f) m);
    made = each_append (IsMadeIn s c) b.value (record { t = t; name = None; object = None } ∷ [])
        (each_weaker (IsMadeIn s b.state) (IsMadeIn s c) (λ (p : OneParameter) q. made-later v U os s b.state c p m q) b.value h.made) (record { named = refl; held = held; made = λ o e. absurd cc }, tt);
    below = subst (Each (λ o. o < count c)) (sym both) (each_weaker (λ o. o < count b.state) (λ o. o < count c) (λ o q. let k = m.count in omega (arith, q, k)) (objects-of b.value) h.below);
    once = subst (λ ns. AreNew ns []) (sym both) h.once;
    visible = λ i k. m.names tt v os (h.visible (subst (λ ns. AreIn ns os) both i) k);
  }
    where
      both : objects-of (b.value ++ (record { t = t; name = None; object = None } ∷ [])) ≡ objects-of b.value
      both = objects-append b.value (record { t = t; name = None; object = None } ∷ []) ∙ append-nil (objects-of b.value)

  abbrev with-one : ℕ → ℕ → Ty → State → State
  with-one n line t c = more_object (named-object n line t) (bind n (ObjectName (count c)) c)

  with-named : (s : State) (b : After (List OneParameter)) (c : State) (n line : ℕ) (t : Ty) → is_array t ≡ false → Moves U v os b.state c → ParametersIn v os s b
      → ParametersIn v os s (record { value = b.value ++ (record { t = t; name = Some n; object = Some (count c) } ∷ []); state = with-one n line t c })
  with-named s b c n line t held m h = record {
    moved = then-moves ⊥ v os s c (with-one n line t c) (then-moves ⊥ v os s b.state c h.moved (weaker-moves U ⊥ v os b.state c (λ f. absurd f) m)) last;
    made = each_append (IsMadeIn s (with-one n line t c)) b.value (record { t = t; name = Some n; object = Some (count c) } ∷ [])
        (each_weaker (IsMadeIn s b.state) (IsMadeIn s (with-one n line t c))
        (λ (p : OneParameter) q. made-later v ⊥ os s c (with-one n line t c) p last (made-later v U os s b.state c p m q)) b.value h.made)
        (record { named = refl; held = held; made = λ o e. here o (some-same (count c) o e) }, tt);
    below = subst (Each (λ o. o < count (with-one n line t c))) (sym both)
        (each_append (λ o. o < count (with-one n line t c)) (objects-of b.value) (count c ∷ [])
        (each_weaker (λ o. o < count b.state) (λ o. o < count (with-one n line t c)) (λ o q. let k = m.count in omega (arith, q, k, few)) (objects-of b.value) h.below) (omega (arith, few), tt));
    once = subst (λ ns. AreNew ns []) (sym both)
        (once-more (objects-of b.value) (count c) (each_weaker (λ o. o < count b.state) (λ o. o < count c) (λ o q. let k = m.count in omega (arith, q, k)) (objects-of b.value) h.below) h.once);
    visible = λ i k.
        let inside = subst (λ ns. AreIn ns os) both i in
        bind-visible v os n (ObjectName (count c)) c (λ e. (each_right (λ d. IsIn d os) (objects-of b.value) (count c ∷ []) inside).0)
        (m.names tt v os (h.visible (each_left (λ d. IsIn d os) (objects-of b.value) (count c ∷ []) inside) k));
  }
    where
      both : objects-of (b.value ++ (record { t = t; name = Some n; object = Some (count c) } ∷ [])) ≡ objects-of b.value ++ (count c ∷ [])
      both = objects-append b.value (record { t = t; name = Some n; object = Some (count c) } ∷ [])

      few : count (with-one n line t c) ≡ count c + 1
      few = length-append c.unit.objects (named-object n line t ∷ [])

      last : Moves ⊥ v os c (with-one n line t c)
      last = then-moves ⊥ v os c (bind n (ObjectName (count c)) c) (with-one n line t c) (bind-moves ⊥ v os n (ObjectName (count c)) c (λ f. absurd f) tt)
          (object-moves v os done ⊥ (named-object n line t) (bind n (ObjectName (count c)) c) (identifier-apart (n + 2) n refl))

      here : (o : ℕ) → count c ≡ o → (count s ≤ o) × (o < count (with-one n line t c)) × ((object_at (with-one n line t c).unit o).t ≡ t) × ((object_at (with-one n line t c).unit o).lasting ≡ false)
      here o e =
          let at : object_at (with-one n line t c).unit o ≡ named-object n line t = subst (λ i. object_at (with-one n line t c).unit i ≡ named-object n line t) e (last-at no_object c.unit.objects (named-object n line t)) in
          let x = h.moved.count in
          let y = m.count in
          (omega (arith, e, x, y), omega (arith, e, few), ap (λ (z : TypedObject). z.t) at, ap (λ (z : TypedObject). z.lasting) at)

  as-parameters : (s : State) (x a : After (List OneParameter)) → Some x ≡ Some a → ParametersIn v os s x → ParametersIn v os s a
  as-parameters s x a e h = subst (ParametersIn v os s) (some-same x a e) h

  one-in : (s : State) (b : After (List OneParameter)) (n : Option (ℕ × ℕ)) (c : State) (t : Ty) → is_array t ≡ false → Moves U v os b.state c → ParametersIn v os s b → (a : After (List OneParameter)) → with_parameter b.value n c t ≡ Some a
      → ParametersIn v os s a
  one-in s b None c t held m h a e = as-parameters s (record { value = b.value ++ (record { t = t; name = None; object = None } ∷ []); state = c }) a e (with-nameless s b c t held m h)
  one-in s b (Some (n, line)) c t held m h a e = by (is_some (find (innermost_scope c.scopes).names n)) e
    where
      by : (d : Bool)
          → and_then (if d then None else Some (bind n (ObjectName (length c.unit.objects)) c)) (λ named. give (Some (b.value ++ (record { t = t; name = Some n; object = Some (length c.unit.objects) } ∷ []))) (more_object (named-object n line t) named)) ≡ Some a
          → ParametersIn v os s a
      by true q = absurd cc
      by false q = as-parameters s (record { value = b.value ++ (record { t = t; name = Some n; object = Some (count c) } ∷ []); state = with-one n line t c }) a q (with-named s b c n line t held m h)

  -- ---- the list

  -- 6.7.6.3p1
  parameter-more : (s : State) (specs : Trees) (d : OptionalTree) (b a : After (List OneParameter)) → ParametersIn v os s b
      → and_then (specifiers specs b.state) (λ x. and_then (type_without_storage x) (λ y. and_then (optional_steps d y.state) (parameter_of (optional_name d) y.value b.value))) ≡ Some a → ParametersIn v os s a
  parameter-more s specs d b a h e =
      let x = from-some (specifiers specs b.state) (λ x. and_then (type_without_storage x) (λ y. and_then (optional_steps d y.state) (parameter_of (optional_name d) y.value b.value))) a e in
      let y = from-some (type_without_storage x.0) (λ y. and_then (optional_steps d y.state) (parameter_of (optional_name d) y.value b.value)) a x.2 in
      let c = from-some (optional_steps d y.0.state) (parameter_of (optional_name d) y.0.value b.value) a y.2 in
      let t = from-some (and_then (derived_type true (env c.0.state) c.0.value.list y.0.value) adjustment_of) (with_parameter b.value (optional_name d) c.0.state) a c.2 in
      let u = from-some (derived_type true (env c.0.state) c.0.value.list y.0.value) adjustment_of t.0 t.1 in
      let same = (given-state (and_then (specification_of x.0.value) without_storage) x.0.state y.0 y.1).1 in
      let first = ((specifiers-give v os done specs b.state).held x.0 x.1).0 in
      let second = ((optional-give v os done d y.0.state).held c.0 c.1).0 in
      one-in s b (optional_name d) c.0.state t.0 (adjusted-held u.0 t.0 u.2)
      (then-moves U v os b.state y.0.state c.0.state (subst (λ z. Moves U v os b.state z) same first) second) h a t.2

  parameter-after : (s : State) (x : Tree) (b a : After (List OneParameter)) → ParametersIn v os s b → parameter_in x b ≡ Some a → ParametersIn v os s a
  parameter-after s (OfDeclaration (Parameter line specs d)) b a h e = parameter-more s specs d b a h e
  parameter-after s (OfDeclaration (FunctionTree line specs d x)) b a h e = absurd cc
  parameter-after s (OfDeclaration (Declaration line specs ds)) b a h e = absurd cc
  parameter-after s (OfDeclaration (InitDeclarator line d i)) b a h e = absurd cc
  parameter-after s (OfDeclaration (MemberDeclaration line specs ds)) b a h e = absurd cc
  parameter-after s (OfDeclaration (Enumerator line n x)) b a h e = absurd cc
  parameter-after s (OfDeclaration (TypeName line specs d)) b a h e = absurd cc
  parameter-after s (OfExpression x) b a h e = absurd cc
  parameter-after s (OfDeclarator x) b a h e = absurd cc
  parameter-after s (OfSpecifier x) b a h e = absurd cc
  parameter-after s (OfInitializer x) b a h e = absurd cc
  parameter-after s (OfStatement x) b a h e = absurd cc

  parameters-in : (ts : Trees) (s : State) (a : After (List OneParameter)) → parameters ts s ≡ Some a → ParametersIn v os s a
  parameters-in NoTrees s a e = as-parameters s (record { value = []; state = s }) a e (record { moved = same-moves ⊥ v os s; made = tt; below = tt; once = tt; visible = λ i k. k })
  parameters-in (Then before x) s a e = let b = from-some (parameters before s) (parameter_in x) a e in parameter-after s x b.0 a (parameters-in before s b.0 b.1) b.2

  -- ---- 6.9.1p2: the list that stands next to the name

  pub record IsSigned (s t : State) (xs : List Derivation) (g : Signature) : Type 0 where
    pub nearest : (ds : List Derivation) × (xs ≡ ByFunction (parameter_types g.parameters) g.variadic ∷ ds)
    pub made : Each (IsMadeIn s t) g.parameters
    pub once : AreNew (objects-of g.parameters) []
    pub visible : AreIn (objects-of g.parameters) os → AreVisible v os s.scopes → Each (λ (e : ℕ × Meaning). IsVisible v os e.1) g.scope.names
    pub known : Orderly s → AreKnownNames (length s.unit.functions) g.scope
    pub good : Later t v → IsProperState v s → Each (λ (p : OneParameter). IsProper v p.t) g.parameters × IsScope v (length s.unit.functions) g.scope

  -- the steps of a declarator: what they do to the state, and the list next to the name
  pub record SignedIn (s : State) (a : After Steps) : Type 0 where
    pub moved : Moves U v os s a.state
    pub signed : (g : Signature) → a.value.signature ≡ Some g → IsSigned s a.state a.value.list g

  signed-later : (s t w : State) (xs : List Derivation) (d : Derivation) (g : Signature) → Moves U v os t w → IsSigned s t xs g → IsSigned s w (xs ++ (d ∷ [])) g
  signed-later s t w xs d g m h = record {
    nearest = (h.nearest.0 ++ (d ∷ []), ap (λ ys. ys ++ (d ∷ [])) h.nearest.1);
    made = each_weaker (IsMadeIn s t) (IsMadeIn s w) (λ (p : OneParameter) q. made-later v U os s t w p m q) g.parameters h.made;
    once = h.once;
    visible = h.visible;
    known = h.known;
    good = λ l k. h.good (m.later l) k;
  }

  as-signed : (s : State) (x a : After Steps) → Some x ≡ Some a → SignedIn s x → SignedIn s a
  as-signed s x a e h = subst (SignedIn s) (some-same x a e) h

  -- one step more, which is no list of parameters
  step-signed : (s w : State) (a : After Steps) (d : Derivation) → Moves U v os a.state w → SignedIn s a → SignedIn s (record { value = with_step a.value d; state = w })
  step-signed s w a d m h = record { moved = then-moves U v os s a.state w h.moved m; signed = λ g e. signed-later s a.state w a.value.list d g m (h.signed g e) }

  -- 6.2.1p4: the scope of a list
  inner-names : (ss : List Scope) → AreVisible v os ss → Each (λ (e : ℕ × Meaning). IsVisible v os e.1) (innermost_scope ss).names
  inner-names ss h = each-at (λ (x : Scope). Each (λ (e : ℕ × Meaning). IsVisible v os e.1) x.names) no_scope ss (length ss - 1) tt h

  -- the list stands for its parameters, or for none (6.7.6.3p10)
  abbrev StandsFor : List OneParameter → List OneParameter → Type 0
  StandsFor ps qs = ((qs ≡ []) × (means_none ps ≡ true)) ⊎ (qs ≡ ps)

  proper-same : (c : Bool) (ps qs : List OneParameter) → proper_parameters c ps ≡ Some qs → StandsFor ps qs
  proper-same c ps qs e = by (not c && means_none ps) (no_void ps) refl e
    where
      by : (b d : Bool) → (not c && means_none ps) ≡ b → (if b then Some [] else (if d then Some ps else None)) ≡ Some qs → StandsFor ps qs
      by true d n q = inl (sym (some-same [] qs q), (both-true (not c) (means_none ps) n).1)
      by false true n q = inr (sym (some-same ps qs q))
      by false false n q = absurd cc

  -- 6.7.6.3p10: `void` alone has no object
  no-object : (o : Option ℕ) (b : Bool) → is_some o ≡ b → not b ≡ true → some-object o ≡ []
  no-object None b e f = refl
  no-object (Some o) b e f = let both : false ≡ true = ap not e ∙ f in absurd cc

  none-objects : (s t : State) (ps : List OneParameter) → means_none ps ≡ true → Each (IsMadeIn s t) ps → objects-of ps ≡ []
  none-objects s t (p ∷ []) e h = append-nil (some-object p.object) ∙ no-object p.object (is_some p.name) h.0.named (both-true (is_void_in p.t) (not (is_some p.name)) e).1
  none-objects s t [] e h = absurd cc
  none-objects s t (p ∷ q ∷ ps) e h = absurd cc

  none-signed : (s : State) (a : After Steps) (b : After (List OneParameter)) (c : Bool) → Moves U v os s a.state → ParametersIn v os (in_new_scope a.state) b
      → (Later (behind_scope b.state) v → IsProperState v s → IsScope v (length s.unit.functions) (innermost_scope b.state.scopes) × Each (λ (p : OneParameter). IsProper v p.t) b.value) → (qs : List OneParameter) → StandsFor b.value qs
      → IsSigned s (behind_scope b.state) (ByFunction (parameter_types qs) c ∷ []) (record { parameters = qs; variadic = c; scope = innermost_scope b.state.scopes })
  none-signed s a b c m h good qs e = record {
    nearest = ([], refl);
    made = made-all qs e;
    once = once-all qs e;
    visible = λ i k. inner-names b.state.scopes (h.visible (inside qs e i) (each_append (λ (x : Scope). Each (λ (y : ℕ × Meaning). IsVisible v os y.1) x.names) a.state.scopes (no_scope ∷ []) (m.names tt v os k) (tt, tt)));
    known = λ k. subst (λ n. AreKnownNames n (innermost_scope b.state.scopes)) (ap (λ (fs : List TypedFunction). length fs) (h.moved.functions ∙ m.functions))
        (each-at (AreKnownNames (length b.state.unit.functions)) no_scope b.state.scopes (length b.state.scopes - 1) tt (h.moved.orderly (entered-orderly a.state (m.orderly k))).names);
    good = λ l k. let z = good l k in (proper-all qs e z.1, z.0);
  }
    where
      first : (p : OneParameter) → IsMadeIn (in_new_scope a.state) b.state p → IsMadeIn s (behind_scope b.state) p
      first p q = record { named = q.named; held = q.held; made = λ o f. let z = q.made o f in let from = z.0 in let k = m.count in (omega (arith, from, k), z.1, z.2, z.3) }

      made-all : (qs : List OneParameter) → StandsFor b.value qs → Each (IsMadeIn s (behind_scope b.state)) qs
      made-all qs (inl q) = subst (Each (IsMadeIn s (behind_scope b.state))) (sym q.0) tt
      made-all qs (inr q) = subst (Each (IsMadeIn s (behind_scope b.state))) (sym q) (each_weaker (IsMadeIn (in_new_scope a.state) b.state) (IsMadeIn s (behind_scope b.state)) first b.value h.made)

      once-all : (qs : List OneParameter) → StandsFor b.value qs → AreNew (objects-of qs) []
      once-all qs (inl q) = subst (λ ps. AreNew (objects-of ps) []) (sym q.0) tt
      once-all qs (inr q) = subst (λ ps. AreNew (objects-of ps) []) (sym q) h.once

      proper-all : (qs : List OneParameter) → StandsFor b.value qs → Each (λ (p : OneParameter). IsProper v p.t) b.value → Each (λ (p : OneParameter). IsProper v p.t) qs
      proper-all qs (inl q) k = subst (Each (λ (p : OneParameter). IsProper v p.t)) (sym q.0) tt
      proper-all qs (inr q) k = subst (Each (λ (p : OneParameter). IsProper v p.t)) (sym q) k

      inside : (qs : List OneParameter) → StandsFor b.value qs → AreIn (objects-of qs) os → AreIn (objects-of b.value) os
      inside qs (inl q) i = subst (λ ns. AreIn ns os) (sym (none-objects (in_new_scope a.state) b.state b.value q.1 h.made)) tt
      inside qs (inr q) i = subst (λ ps. AreIn (objects-of ps) os) q i

  -- 6.7.6.3p5: a list of parameters
  list-signed : (s : State) (a : After Steps) (b : After (List OneParameter)) (c : Bool) → SignedIn s a → ParametersIn v os (in_new_scope a.state) b
      → (Later (behind_scope b.state) v → IsProperState v s → IsScope v (length s.unit.functions) (innermost_scope b.state.scopes) × Each (λ (p : OneParameter). IsProper v p.t) b.value)
      → (x : After Steps) → by_function c a.value b ≡ Some x → SignedIn s x
  list-signed s a b c h k good x e = by (proper_parameters c b.value) refl e
    where
      last : Moves U v os a.state (behind_scope b.state)
      last = left-moves ⊥ U v os a.state b.state k.moved

      of : (qs : List OneParameter) → StandsFor b.value qs → (ds : List Derivation) (old : Option Signature)
          → ((g : Signature) → old ≡ Some g → IsSigned s a.state ds g) → (g : Signature) → nearest_parameters ds old (record { parameters = qs; variadic = c; scope = innermost_scope b.state.scopes }) ≡ Some g
          → IsSigned s (behind_scope b.state) (ds ++ (ByFunction (parameter_types qs) c ∷ [])) g
      of qs f [] old before g e =
          subst (λ z. IsSigned s (behind_scope b.state) (ByFunction (parameter_types qs) c ∷ []) z) (some-same (record { parameters = qs; variadic = c; scope = innermost_scope b.state.scopes }) g e) (none-signed s a b c h.moved k good qs f)
      of qs f (d ∷ ds) old before g e = signed-later s a.state (behind_scope b.state) (d ∷ ds) (ByFunction (parameter_types qs) c) g last (before g e)

      by : (o : Option (List OneParameter)) → proper_parameters c b.value ≡ o
          → and_then (and_then o (λ ps. give (Some (record { parameters = ps; variadic = c; scope = innermost_scope b.state.scopes })) (behind_scope b.state))) (λ g. give (Some (with_function a.value g.value)) g.state) ≡ Some x → SignedIn s x
      by None q e = absurd cc
      by (Some qs) q e =
          as-signed s (record { value = with_function a.value (record { parameters = qs; variadic = c; scope = innermost_scope b.state.scopes }); state = behind_scope b.state }) x e (record {
            moved = then-moves U v os s a.state (behind_scope b.state) h.moved last;
            signed = of qs (proper-same c b.value qs q) a.value.list a.value.signature h.signed;
          })

  -- what a list leaves is as declarations make it
  list-good : (d : DeclaratorTree) (ps : Trees) (s : State) (a : After Steps) (b : After (List OneParameter)) → steps d s ≡ Some a → Moves U v os s a.state → parameters ps (in_new_scope a.state) ≡ Some b
      → Later (behind_scope b.state) v → IsProperState v s → IsScope v (length s.unit.functions) (innermost_scope b.state.scopes) × Each (λ (p : OneParameter). IsProper v p.t) b.value
  list-good d ps s a b e m f l g =
      let r = (parameters-give v os done ps (in_new_scope a.state)).held b f in
      let later : Later b.state v = record { unit = l.unit; used = l.used } in
      let before : Later a.state v = let k = r.0.later later in record { unit = k.unit; used = k.used } in
      let here = ((steps-give v os done d s).held a e).1 before tt g in
      let z = r.1 later (inner-file a.state here.0.some) (entered-proper v a.state here.0) in (
        subst (λ n. IsScope v n (innermost_scope b.state.scopes)) (ap (λ (fs : List TypedFunction). length fs) (r.0.functions ∙ m.functions)) (inner-scope v (length b.state.unit.functions) b.state.scopes z.0.scopes),
        z.1,
      )

  -- 6.9.1p2, p5: the steps of the declarator of a definition
  pub steps-signed : (d : DeclaratorTree) (n : ℕ × ℕ) → declared_name d ≡ Some n → (s : State) (a : After Steps) → steps d s ≡ Some a → SignedIn s a
  steps-signed (DeclaredName line n) m q s a e = as-signed s (record { value = no_steps; state = s }) a e (record { moved = same-moves U v os s; signed = λ g f. absurd cc })
  steps-signed (ParenDeclarator line d) m q s a e = steps-signed d m q s a e
  steps-signed (Pointer line consts d) m q s a e =
      let b = from-some (steps d s) (by_pointer consts) a e in
      as-signed s (record { value = with_step b.0.value (ByPointer (nat_lt 0 consts)); state = b.0.state }) a b.2 (step-signed s b.0.state b.0 (ByPointer (nat_lt 0 consts)) (same-moves U v os b.0.state) (steps-signed d m q s b.0 b.1))
  steps-signed (Array line d size) m q s a e =
      let b = from-some (steps d s) (λ b. and_then (array_size size b.state) (by_array b.value)) a e in
      let n = from-some (array_size size b.0.state) (by_array b.0.value) a b.2 in
      as-signed s (record { value = with_step b.0.value (ByArray n.0.value); state = n.0.state }) a n.2
      (step-signed s n.0.state b.0 (ByArray n.0.value) ((size-gives v os done size b.0.state).held n.0 n.1).0 (steps-signed d m q s b.0 b.1))
  steps-signed (FunctionDeclarator line d ps c) m q s a e = by (steps-signed d m q s) (may_be_variadic c d s) e
    where
      by : ((b : After Steps) → steps d s ≡ Some b → SignedIn s b) → (z : Bool) → (if z then and_then (steps d s) (λ b. and_then (parameters ps (in_new_scope b.state)) (by_function c b.value)) else None) ≡ Some a → SignedIn s a
      by inner false f = absurd cc
      by inner true f =
          let b = from-some (steps d s) (λ b. and_then (parameters ps (in_new_scope b.state)) (by_function c b.value)) a f in
          let k = from-some (parameters ps (in_new_scope b.0.state)) (by_function c b.0.value) a b.2 in
          let h = inner b.0 b.1 in
          list-signed s b.0 k.0 c h (parameters-in ps (in_new_scope b.0.state) k.0 k.1) (λ l g. list-good d ps s b.0 k.0 b.1 h.moved k.1 l g) a k.2
  steps-signed (AbstractParen line d) m q s a e = absurd cc
  steps-signed (AbstractPointer line consts d) m q s a e = absurd cc
  steps-signed (AbstractArray line d size) m q s a e = absurd cc
  steps-signed (AbstractFunction line d ps c) m q s a e = absurd cc
