-- Declarations of functions at file scope (C17 6.7, 6.9.1): what each does to the unit.
use Rattle.std.proofs.Common.{◌≡◌, ℕ, ◌<◌, ◌≤◌, ◌+◌, ◌-◌, ◌==◌, Bool, true, false, Option, Some, None, is_some, List, [], ◌∷◌, ◌++◌, length, set, get_or, refl, sym, ap, subst, ◌∙◌, arith, length-append, length-set, ◌⊎◌, inl, inr}
use Rattle.std.specs.Prelude.{if◌then◌else◌}
use Rattle.std.proofs.lemmas.Bool.{eqb-true, eq-eqb}
use Rattle.pv_num.specs.declared.kinds.IntKind.TheVariants.{Int}
use Rattle.pv_types.specs.Matching.{Matches}
use Rattle.pv_types.specs.Compatible.{are_compatible}
use Rattle.pv_types.specs.Ty.{Ty, Tys, NoTys, IntTy, FunctionTy}
use Rattle.pv_types.proofs.Matched.{matching}
use Rattle.pv_typed.specs.Known.{Each}
use Rattle.pv_typed.specs.Mains.{named_main}
use Rattle.pv_typed.proofs.Each.{each_append, each_weaker}
use Rattle.pv_typed.specs.TypedUnits.{WholeUnit, TypedFunction, function_at, name_at}
use Rattle.pv_typed.specs.UnitParts.{no_function}
use Rattle.pv_check.specs.Composite.{composite_of}
use Rattle.pv_library.specs.LibraryNames.{library_named}
use Rattle.pv_typed.specs.TypedTree.{is_function}
use Rattle.pv_check.specs.State.{State, Scope, Meaning, ObjectName, FunctionName, TypedefOf, ConstantOf, Used, UsedObject, UsedFunction, PointedFunction}
use Rattle.pv_check.specs.Scopes.{no_scope, innermost_scope, find}
use Rattle.pv_check.specs.ScopeParts.{with_meaning}
use Rattle.pv_unit.specs.Redeclarations.{Entity, UnitState, unit_name, is_initialized, entity, with_function, with_function_type, new_function, with_new_function, function_again, may_have, function_declared}
use Rattle.pv_unit.specs.EntityParts.{function_found}
use Rattle.pv_unit.specs.Declarations.{after_declaration}
use Rattle.pv_unit.specs.DeclarationParts.{plain_function}
use Rattle.pv_guards.specs.TypedStatements.{IsDefinition}
use Rattle.pv_well_typed.specs.Later.{IsFinished}
use Rattle.pv_well_typed.specs.Proper.{IsProper}
use Rattle.pv_well_typed.specs.ProperStates.{IsFixed, HasFunctionType, IsMeaning, IsScope, IsProperState}
use Rattle.pv_well_typed.proofs.Operands.{some-same}
use Rattle.pv_well_typed.proofs.PrimaryRows.{each-at, last-at}
use Rattle.pv_well_typed.proofs.Changes.{each-set, each-bound, find-each, inner-scope, bind-visible, before-at}
use Rattle.pv_well_typed.proofs.UnitChanges.{Signs, same-signs, set-same, set-other, differ, composite-signs, with-function-later, new-function-later}
use Rattle.pv_well_typed.proofs.Moving.{inner-set, IsKnownMeaning, AreKnownNames, IsKnownUse, Orderly}
use Rattle.pv_well_typed.proofs.DeclaredTypes.{from-some}
use Rattle.pv_well_typed.proofs.StatementWalk.{visible-more}
use Rattle.pv_well_typed.proofs.FileScope.{HasEntity, AreFound, found-set, found-new, declared-objects, declared-has, has-declared, has-front, has-behind, has-either, initialized-front, IsEntityOf, IsFunctionOf, blank, IsUnit, FunctionIs, Stays, UnitIs, Goes, then-goes}
use Rattle.pv_well_typed.proofs.FileObjects.{noted-goes, as-goes}
use Rattle.pv_well_typed.proofs.FunctionTypes.{main-is, composite-main, composite-fixed, composite-function, may-have, may-type, fixed-back, composite-shape, compatible-signs}

module _ (v : WholeUnit) (done : IsFinished v) where
  -- the composite type's signature is that of the newer type
  newer-signs : (t u : Ty) → is_function t ≡ true → Matches t u → Signs u (composite_of t u)
  newer-signs t u f m w h r ts e = compatible-signs t u f m w (composite-signs v t u w h) r ts e

  -- ---- 6.2.1p7: a new function

  abbrev fresh-function : ℕ → ℕ → Ty → TypedFunction
  fresh-function n line t = record { name = unit_name n; t = t; line = line; params = []; body = None }

  abbrev functions-of : State → ℕ
  functions-of s = length s.unit.functions

  pub known-more : (m n : ℕ) → m ≤ n → (x : Meaning) → IsKnownMeaning m x → IsKnownMeaning n x
  known-more m n le (ObjectName o) h = tt
  known-more m n le (FunctionName f) h = omega (arith, le, h)
  known-more m n le (TypedefOf t) h = tt
  known-more m n le (ConstantOf k) h = tt

  use-more : (ns : List (List ℕ)) (fs gs : List TypedFunction) (x : Used) → IsKnownUse ns fs x → IsKnownUse ns (fs ++ gs) x
  use-more ns fs gs (UsedObject o) h = tt
  use-more ns fs gs (UsedFunction f) h = let e = length-append fs gs in omega (arith, e, h)
  use-more ns fs gs (PointedFunction f) h =
      let e = length-append fs gs in
      let less = h.0 in
      (omega (arith, e, less), subst (λ (x : TypedFunction). library_named (get_or ns x.name []) ≡ None) (sym (before-at no_function fs gs f h.0)) h.1)

  -- with another function of the same name
  use-set : (ns : List (List ℕ)) (fs : List TypedFunction) (f : ℕ) (y : TypedFunction) → y.name ≡ (get_or fs f no_function).name → (x : Used) → IsKnownUse ns fs x → IsKnownUse ns (set fs f y) x
  use-set ns fs f y e (UsedObject o) h = tt
  use-set ns fs f y e (UsedFunction g) h = let n = length-set fs f y in omega (arith, n, h)
  use-set ns fs f y e (PointedFunction g) h = let n = length-set fs f y in let less = h.0 in (omega (arith, n, less), by (f == g) refl)
    where
      by : (b : Bool) → (f == g) ≡ b → library_named (get_or ns (get_or (set fs f y) g no_function).name []) ≡ None
      by true q =
          let same = eqb-true f g q in
          let at : get_or (set fs f y) g no_function ≡ y = subst (λ j. get_or (set fs f y) j no_function ≡ y) same (set-same no_function fs f y (subst (λ j. j < length fs) (sym same) h.0)) in
          subst (λ n. library_named (get_or ns n []) ≡ None) (sym (ap (λ (x : TypedFunction). x.name) at ∙ e ∙ ap (λ j. (get_or fs j no_function).name) same)) h.1
      by false q = subst (λ (x : TypedFunction). library_named (get_or ns x.name []) ≡ None) (sym (set-other no_function fs f g y (differ f g q))) h.1

  pub set-orderly : (f : ℕ) (y : TypedFunction) (s : State) → y.name ≡ (function_at s.unit f).name → Orderly s → Orderly (with_function f y s)
  set-orderly f y s e h = record {
    names = subst (λ n. Each (AreKnownNames n) s.scopes) (sym (length-set s.unit.functions f y)) h.names;
    uses = each_weaker (IsKnownUse s.unit.names s.unit.functions) (IsKnownUse s.unit.names (set s.unit.functions f y)) (λ (x : Used) q. use-set s.unit.names s.unit.functions f y e x q) s.used h.uses;
    sources = h.sources;
    written = h.written;
    ended = h.ended;
    laid = h.laid;
    apart = h.apart;
  }

  meaning-more : (m n : ℕ) → m ≤ n → (x : Meaning) → IsMeaning v m x → IsMeaning v n x
  meaning-more m n le (ObjectName o) h = tt
  meaning-more m n le (FunctionName f) h = omega (arith, le, h)
  meaning-more m n le (TypedefOf t) h = h
  meaning-more m n le (ConstantOf k) h = h

  pub scope-more : (m n : ℕ) → m ≤ n → (x : Scope) → IsScope v m x → IsScope v n x
  scope-more m n le x h = (each_weaker (λ (e : ℕ × Meaning). IsMeaning v m e.1) (λ (e : ℕ × Meaning). IsMeaning v n e.1) (λ (e : ℕ × Meaning) q. meaning-more m n le e.1 q) x.names h.0, h.1)

  new-orderly : (n line : ℕ) (t : Ty) (s : State) → Orderly s → Orderly (new_function n line t s)
  new-orderly n line t s h =
      let few = length-append s.unit.functions (fresh-function n line t ∷ []) in
      let k = functions-of (new_function n line t s) in
      let more : functions-of s ≤ k = omega (arith, few) in
      let names = each_weaker (AreKnownNames (functions-of s)) (AreKnownNames k)
      (λ (x : Scope) q. each_weaker (λ (e : ℕ × Meaning). IsKnownMeaning (functions-of s) e.1) (λ (e : ℕ × Meaning). IsKnownMeaning k e.1) (λ (e : ℕ × Meaning) z. known-more (functions-of s) k more e.1 z) x.names q) s.scopes h.names in
      record {
        names = each-set (AreKnownNames k) s.scopes (length s.scopes - 1) _ names
            (each-bound (IsKnownMeaning k) n (FunctionName (functions-of s)) (innermost_scope s.scopes).names (omega (arith, few)) (each-at (AreKnownNames k) no_scope s.scopes (length s.scopes - 1) tt names));
        uses = each_weaker (IsKnownUse s.unit.names s.unit.functions) (IsKnownUse s.unit.names (s.unit.functions ++ (fresh-function n line t ∷ [])))
            (λ (x : Used) q. use-more s.unit.names s.unit.functions (fresh-function n line t ∷ []) x q) s.used h.uses;
        sources = h.sources;
        written = h.written;
        ended = h.ended;
        laid = h.laid;
        apart = h.apart;
      }

  new-proper : (n line : ℕ) (t : Ty) (s : State) → HasFunctionType v (library_named (name_at s.unit (unit_name n))) t → IsProperState v s → IsProperState v (new_function n line t s)
  new-proper n line t s p h =
      let few = length-append s.unit.functions (fresh-function n line t ∷ []) in
      let k = functions-of (new_function n line t s) in
      let more : functions-of s ≤ k = omega (arith, few) in
      let scopes = each_weaker (IsScope v (functions-of s)) (IsScope v k) (λ (x : Scope) q. scope-more (functions-of s) k more x q) s.scopes h.scopes in
      let inner = inner-scope v k s.scopes scopes in
      let size = length-set s.scopes (length s.scopes - 1) (record (innermost_scope s.scopes) { names = with_meaning n (FunctionName (functions-of s)) (innermost_scope s.scopes).names }) in
      let some = h.some in
      record {
        unit = record { objects = h.unit.objects; functions = λ f lt. at f (either f (functions-of s)) lt few; completed = h.unit.completed };
        some = omega (arith, size, some);
        scopes = each-set (IsScope v k) s.scopes (length s.scopes - 1) _ scopes (each-bound (IsMeaning v k) n (FunctionName (functions-of s)) (innermost_scope s.scopes).names (omega (arith, few)) inner.0, inner.1);
      }
    where
      either : (o n : ℕ) → (o < n) ⊎ (n ≤ o)
      either o n = grind arith

      at : (f : ℕ) → (f < functions-of s) ⊎ (functions-of s ≤ f) → f < functions-of (new_function n line t s) → length (s.unit.functions ++ (fresh-function n line t ∷ [])) ≡ functions-of s + 1
          → HasFunctionType v (library_named (name_at s.unit (function_at (new_function n line t s).unit f).name)) (function_at (new_function n line t s).unit f).t
      at f (inl less) lt few =
          subst (λ (x : TypedFunction). HasFunctionType v (library_named (name_at s.unit x.name)) x.t) (sym (before-at no_function s.unit.functions (fresh-function n line t ∷ []) f less)) (h.unit.functions f less)
      at f (inr le) lt few =
          let same : functions-of s ≡ f = omega (arith, le, lt, few) in
          subst (λ (x : TypedFunction). HasFunctionType v (library_named (name_at s.unit x.name)) x.t)
          (sym (subst (λ j. function_at (new_function n line t s).unit j ≡ fresh-function n line t) same (last-at no_function s.unit.functions (fresh-function n line t)))) p

  -- what is asked of the type
  abbrev MayType : UnitState → ℕ → Ty → Type 0
  MayType u n t = (is_function t ≡ true) × (may_have u.state.unit.names (unit_name n) t ≡ true)

  new-function-goes : (k : Option ℕ) (n line : ℕ) (t : Ty) (u : UnitState) → IsUnit v k u → MayType u n t → find (innermost_scope u.state.scopes).names n ≡ None → Goes (IsProper v t) v k u (with_new_function n line t u).1
  new-function-goes k n line t u i may none =
      let s = u.state in
      let few = length-append s.unit.functions (fresh-function n line t ∷ []) in
      let size = length-set s.scopes (length s.scopes - 1) (record (innermost_scope s.scopes) { names = with_meaning n (FunctionName (functions-of s)) (innermost_scope s.scopes).names }) in
      record {
        later = λ l. new-function-later v n line t s l;
        grown = λ g o lt. g o lt;
        stays = λ g o lt none. g o lt (λ q. by o none (has-either false o u.entities (entity n true (functions-of s) ∷ []) q));
        count = omega arith;
        functions = omega (arith, few);
        unit = record {
          file = size ∙ i.file;
          evaluated = i.evaluated;
          unnoted = i.unnoted;
          orderly = new-orderly n line t s i.orderly;
          names = bind-visible (blank v) (declared-objects (u.entities ++ (entity n true (functions-of s) ∷ []))) n (FunctionName (functions-of s)) s tt
              (visible-more (blank v) (declared-objects u.entities) (declared-objects (u.entities ++ (entity n true (functions-of s) ∷ [])))
              (λ o q. has-declared o (u.entities ++ (entity n true (functions-of s) ∷ [])) (has-front false o u.entities (entity n true (functions-of s) ∷ []) (declared-has o u.entities q))) s.scopes i.names);
          entities = each_append (IsEntityOf k (new_function n line t s).unit) u.entities (entity n true (functions-of s) ∷ [])
              (each_weaker (IsEntityOf k s.unit) (IsEntityOf k (new_function n line t s).unit) (λ (e : Entity) q. kept e few q) u.entities i.entities) (
                record {
                  object = λ f. absurd cc;
                  function = λ f. (omega (arith, few), ap (λ (x : TypedFunction). x.name) (last-at no_function s.unit.functions (fresh-function n line t)));
                  defined = λ f d. absurd cc;
                },
                tt,
              );
          functions = λ f lt. at f (either f (functions-of s)) lt few;
          found = subst (λ (z : Scope). AreFound (s.unit.functions ++ (fresh-function n line t ∷ [])) z.names)
              (sym (inner-set s.scopes (record (innermost_scope s.scopes) { names = with_meaning n (FunctionName (functions-of s)) (innermost_scope s.scopes).names }) (let file = i.file in omega (arith, file))))
              (found-new s.unit.functions (innermost_scope s.scopes).names (fresh-function n line t) n (FunctionName (functions-of s)) refl none i.found);
        };
        is = λ p l z. record {
          proper = new-proper n line t s (may-type v s.unit.names (unit_name n) t may.0 (may-have s.unit.names (unit_name n) t may.1) p) z.proper;
          objects = λ g o lt. let y = z.objects (λ j less. g j less) o lt in record { constants = y.constants; complete = λ none. y.complete (λ q. none (has-front false o u.entities (entity n true (functions-of s) ∷ []) q)) };
          functions = λ g f lt. is-at z (λ o less none. g o less (λ q. by o none (has-either false o u.entities (entity n true (functions-of s) ∷ []) q))) f (either f (functions-of s)) lt few;
        };
      }
    where
      either : (o n : ℕ) → (o < n) ⊎ (n ≤ o)
      either o n = grind arith

      by : (o : ℕ) → (HasEntity false o u.entities → ⊥) → HasEntity false o u.entities ⊎ HasEntity false o (entity n true (functions-of u.state) ∷ []) → ⊥
      by o none (inl q) = none q
      by o none (inr (inl q)) = absurd cc
      by o none (inr (inr q)) = q

      before : (f : ℕ) → f < functions-of u.state → function_at (new_function n line t u.state).unit f ≡ function_at u.state.unit f
      before f lt = before-at no_function u.state.unit.functions (fresh-function n line t ∷ []) f lt

      last : (f : ℕ) → functions-of u.state ≤ f → f < functions-of (new_function n line t u.state) → length (u.state.unit.functions ++ (fresh-function n line t ∷ [])) ≡ functions-of u.state + 1
          → (functions-of u.state ≡ f) × (function_at (new_function n line t u.state).unit f ≡ fresh-function n line t)
      last f le lt few =
          let same : functions-of u.state ≡ f = omega (arith, le, lt, few) in
          (same, subst (λ j. function_at (new_function n line t u.state).unit j ≡ fresh-function n line t) same (last-at no_function u.state.unit.functions (fresh-function n line t)))

      kept : (e : Entity) → length (u.state.unit.functions ++ (fresh-function n line t ∷ [])) ≡ functions-of u.state + 1 → IsEntityOf k u.state.unit e → IsEntityOf k (new_function n line t u.state).unit e
      kept e few q = record {
        object = q.object;
        function = λ f. let z = q.function f in let less = z.0 in (omega (arith, less, few), ap (λ (x : TypedFunction). x.name) (before e.number z.0) ∙ z.1);
        defined = λ f d. said e (q.function f).0 (q.defined f d);
      }
        where
          said : (e : Entity) → e.number < functions-of u.state → (k ≡ Some e.number) ⊎ (is_some (function_at u.state.unit e.number).body ≡ true) → (k ≡ Some e.number) ⊎ (is_some (function_at (new_function n line t u.state).unit e.number).body ≡ true)
          said e lt (inl z) = inl z
          said e lt (inr z) = inr (ap (λ (x : TypedFunction). is_some x.body) (before e.number lt) ∙ z)

      at : (f : ℕ) → (f < functions-of u.state) ⊎ (functions-of u.state ≤ f) → f < functions-of (new_function n line t u.state) → length (u.state.unit.functions ++ (fresh-function n line t ∷ [])) ≡ functions-of u.state + 1
          → IsFunctionOf (new_function n line t u.state).unit (u.entities ++ (entity n true (functions-of u.state) ∷ [])) f
      at f (inl less) lt few =
          let z = i.functions f less in
          let e = before f less in
          record {
            declared = has-front true f u.entities (entity n true (functions-of u.state) ∷ []) z.declared;
            shape = ap (λ (x : TypedFunction). is_function x.t) e ∙ z.shape;
            fixed = λ b. subst (λ (x : TypedFunction). IsFixed x.t) (sym e) (z.fixed (sym (ap (λ (x : TypedFunction). is_some x.body) e) ∙ b));
            unset = λ b. ap (λ (x : TypedFunction). x.params) e ∙ z.unset (sym (ap (λ (x : TypedFunction). is_some x.body) e) ∙ b);
            fresh = λ b. ap (λ (x : TypedFunction). is_some x.body) e ∙ z.fresh (initialized-front f u.entities (entity n true (functions-of u.state) ∷ []) b);
            main = λ b. ap (λ (x : TypedFunction). x.t) e ∙ z.main (subst (λ (x : TypedFunction). named_main u.state.unit.names x.name ≡ true) e b);
          }
      at f (inr le) lt few =
          let e = last f le lt few in
          let h = may-have u.state.unit.names (unit_name n) t may.1 in
          record {
            declared = has-behind true f u.entities (entity n true (functions-of u.state) ∷ []) (inl (eq-eqb (functions-of u.state) f e.0));
            shape = ap (λ (x : TypedFunction). is_function x.t) e.1 ∙ may.0;
            fixed = λ b. let both : false ≡ true = sym (ap (λ (x : TypedFunction). is_some x.body) e.1) ∙ b in absurd cc;
            unset = λ b. ap (λ (x : TypedFunction). x.params) e.1;
            fresh = λ b. ap (λ (x : TypedFunction). is_some x.body) e.1;
            main = λ b. ap (λ (x : TypedFunction). x.t) e.1 ∙ main-is t may.0 (h.main (subst (λ (x : TypedFunction). named_main u.state.unit.names x.name ≡ true) e.1 b));
          }

      is-at : UnitIs v u → Stays v u → (f : ℕ) → (f < functions-of u.state) ⊎ (functions-of u.state ≤ f) → f < functions-of (new_function n line t u.state)
          → length (u.state.unit.functions ++ (fresh-function n line t ∷ [])) ≡ functions-of u.state + 1 → FunctionIs v f (function_at (new_function n line t u.state).unit f)
      is-at z g f (inl less) lt few = subst (FunctionIs v f) (sym (before f less)) (z.functions g f less)
      is-at z g f (inr le) lt few = subst (FunctionIs v f) (sym (last f le lt few).1) (λ r ts e. refl)

  -- ---- another function in the place of one

  -- with what it was before: its name, and a type of which the same is so
  record Changes (u : UnitState) (f : ℕ) (y : TypedFunction) : Type 0 where
    named : y.name ≡ (function_at u.state.unit f).name
    body : y.body ≡ (function_at u.state.unit f).body
    params : y.params ≡ (function_at u.state.unit f).params
    signs : Signs (function_at u.state.unit f).t y.t
    shape : is_function (function_at u.state.unit f).t ≡ true → is_function y.t ≡ true
    fixed : IsFixed (function_at u.state.unit f).t → IsFixed y.t
    main : (function_at u.state.unit f).t ≡ FunctionTy (IntTy Int) NoTys false → y.t ≡ FunctionTy (IntTy Int) NoTys false

  pub set-at : (u : UnitState) (f : ℕ) (y : TypedFunction) (P : TypedFunction → Type 0) (g : ℕ) → g < functions-of u.state → (f ≡ g → P y) → P (function_at u.state.unit g) → P (function_at (with_function f y u.state).unit g)
  set-at u f y P g lt first other = by (f == g) refl
    where
      by : (b : Bool) → (f == g) ≡ b → P (function_at (with_function f y u.state).unit g)
      by true e =
          let same = eqb-true f g e in
          subst P (sym (subst (λ j. get_or (set u.state.unit.functions f y) j no_function ≡ y) same (set-same no_function u.state.unit.functions f y (subst (λ j. j < functions-of u.state) (sym same) lt)))) (first same)
      by false e = subst P (sym (set-other no_function u.state.unit.functions f g y (differ f g e))) other

  changed-goes : (B : Type 0) (k : Option ℕ) (f : ℕ) (y : TypedFunction) (u : UnitState) → IsUnit v k u → Changes u f y
      → (B → UnitIs v u → f < functions-of u.state → HasFunctionType v (library_named (name_at u.state.unit y.name)) y.t) → Goes B v k u (record u { state = with_function f y u.state })
  changed-goes B k f y u i c h =
      let s = u.state in
      let few = length-set s.unit.functions f y in
      record {
        later = with-function-later v f y s c.named c.signs;
        grown = λ g o lt. g o lt;
        stays = λ g o lt none. g o lt none;
        count = omega arith;
        functions = omega (arith, few);
        unit = record {
          file = i.file;
          evaluated = i.evaluated;
          unnoted = i.unnoted;
          orderly = set-orderly f y s c.named i.orderly;
          names = i.names;
          entities = each_weaker (IsEntityOf k s.unit) (IsEntityOf k (with_function f y s).unit) (λ (e : Entity) q. kept e few q) u.entities i.entities;
          functions = λ g lt. at g (omega (arith, lt, few)) (i.functions g (omega (arith, lt, few)));
          found = found-set s.unit.functions (innermost_scope s.scopes).names f y c.named i.found;
        };
        is = λ b l z. record {
          proper = record {
            unit = record {
              objects = z.proper.unit.objects;
              functions = λ g lt.
                  let less : g < functions-of s = omega (arith, lt, few) in
                  set-at u f y (λ (x : TypedFunction). HasFunctionType v (library_named (name_at s.unit x.name)) x.t) g less (λ e. h b z (subst (λ j. j < functions-of s) (sym e) less)) (z.proper.unit.functions g less);
              completed = z.proper.unit.completed;
            };
            some = z.proper.some;
            scopes = subst (λ n. Each (IsScope v n) s.scopes) (sym few) z.proper.scopes;
          };
          objects = λ g o lt. let y = z.objects (λ j less. g j less) o lt in record { constants = y.constants; complete = y.complete };
          functions = λ g j lt.
              let less : j < functions-of s = omega (arith, lt, few) in
              let old = z.functions (λ o few none. g o few none) j less in
              set-at u f y (FunctionIs v j) j less (λ e r ts q. moved j e r ts (old r ts q)) old;
        };
      }
    where
      kept : (e : Entity) → length (set u.state.unit.functions f y) ≡ functions-of u.state → IsEntityOf k u.state.unit e → IsEntityOf k (with_function f y u.state).unit e
      kept e few q = record {
        object = q.object;
        function = λ g. let z = q.function g in let less = z.0 in (
          omega (arith, less, few),
          set-at u f y (λ (x : TypedFunction). x.name ≡ unit_name e.name) e.number z.0 (λ s. c.named ∙ ap (λ j. (function_at u.state.unit j).name) s ∙ z.1) z.1,
        );
        defined = λ g d. said (q.function g).0 (q.defined g d);
      }
        where
          said : e.number < functions-of u.state → (k ≡ Some e.number) ⊎ (is_some (function_at u.state.unit e.number).body ≡ true) → (k ≡ Some e.number) ⊎ (is_some (function_at (with_function f y u.state).unit e.number).body ≡ true)
          said lt (inl z) = inl z
          said lt (inr z) = inr (set-at u f y (λ (x : TypedFunction). is_some x.body ≡ true) e.number lt (λ s. ap is_some c.body ∙ ap (λ j. is_some (function_at u.state.unit j).body) s ∙ z) z)

      at : (g : ℕ) → g < functions-of u.state → IsFunctionOf u.state.unit u.entities g → IsFunctionOf (with_function f y u.state).unit u.entities g
      at g lt z = record {
        declared = z.declared;
        shape = set-at u f y (λ (x : TypedFunction). is_function x.t ≡ true) g lt (λ s. c.shape (ap (λ j. is_function (function_at u.state.unit j).t) s ∙ z.shape)) z.shape;
        fixed = set-at u f y (λ (x : TypedFunction). is_some x.body ≡ true → IsFixed x.t) g lt
            (λ s b. c.fixed (subst (λ j. IsFixed (function_at u.state.unit j).t) (sym s) (z.fixed (sym (ap is_some c.body ∙ ap (λ j. is_some (function_at u.state.unit j).body) s) ∙ b)))) z.fixed;
        unset = set-at u f y (λ (x : TypedFunction). is_some x.body ≡ false → x.params ≡ []) g lt
            (λ s b. c.params ∙ ap (λ j. (function_at u.state.unit j).params) s ∙ z.unset (sym (ap is_some c.body ∙ ap (λ j. is_some (function_at u.state.unit j).body) s) ∙ b)) z.unset;
        fresh = set-at u f y (λ (x : TypedFunction). is_initialized true g u.entities ≡ false → is_some x.body ≡ false) g lt
            (λ s b. ap is_some c.body ∙ ap (λ j. is_some (function_at u.state.unit j).body) s ∙ z.fresh b) z.fresh;
        main = set-at u f y (λ (x : TypedFunction). named_main u.state.unit.names x.name ≡ true → x.t ≡ FunctionTy (IntTy Int) NoTys false) g lt
            (λ s b. c.main (ap (λ j. (function_at u.state.unit j).t) s ∙ z.main (subst (λ n. named_main u.state.unit.names n ≡ true) (c.named ∙ ap (λ j. (function_at u.state.unit j).name) s) b))) z.main;
      }

      moved : (j : ℕ) → f ≡ j → (r : Ty) (ts : Tys) → IsDefinition v r ts (function_at u.state.unit j).params (function_at u.state.unit j).body → IsDefinition v r ts y.params y.body
      moved j e r ts d =
          subst (λ ps. IsDefinition v r ts ps y.body) (sym (c.params ∙ ap (λ n. (function_at u.state.unit n).params) e))
          (subst (λ b. IsDefinition v r ts (function_at u.state.unit j).params b) (sym (c.body ∙ ap (λ n. (function_at u.state.unit n).body) e)) d)

  -- 6.2.7p4: its type is the composite one
  composed-function-goes : (k : Option ℕ) (f : ℕ) (t : Ty) (u : UnitState) → IsUnit v k u → f < functions-of u.state → is_function t ≡ true → are_compatible (function_at u.state.unit f).t t ≡ true
      → Goes (IsProper v t) v k u (record u { state = with_function_type f (composite_of (function_at u.state.unit f).t t) u.state })
  composed-function-goes k f t u i there g c =
      let x = function_at u.state.unit f in
      changed-goes (IsProper v t) k f (record x { t = composite_of x.t t }) u i (record {
        named = refl;
        body = refl;
        params = refl;
        signs = composite-signs v x.t t;
        shape = composite-shape x.t t;
        fixed = composite-fixed x.t t;
        main = λ e. ap (λ w. composite_of w t) e ∙ composite-main t;
      })
      (λ p z lt. composite-function v (library_named (name_at u.state.unit x.name)) x.t t c (i.functions f there).shape g (z.proper.unit.functions f lt) p)

  -- ---- 6.7p4: a declaration of a function

  pub record FunctionAt (B : Type 0) (k : Option ℕ) (u : UnitState) (t : Ty) (a : ℕ × UnitState) : Type 0 where
    pub goes : Goes B v k u a.1
    pub there : a.0 < functions-of a.1.state
    pub signs : Signs t (function_at a.1.state.unit a.0).t
    pub fixed : IsFixed t → IsFixed (function_at a.1.state.unit a.0).t

  as-function : (B : Type 0) (k : Option ℕ) (u : UnitState) (t : Ty) (x a : ℕ × UnitState) → Some x ≡ Some a → FunctionAt B k u t x → FunctionAt B k u t a
  as-function B k u t x a e h = subst (FunctionAt B k u t) (some-same x a e) h

  function-again-goes : (k : Option ℕ) (m : Option Meaning) (n line : ℕ) (t : Ty) (u : UnitState) → IsUnit v k u → MayType u n t → ((f : ℕ) → m ≡ Some (FunctionName f) → f < functions-of u.state) → find (innermost_scope u.state.scopes).names n ≡ m → (a : ℕ × UnitState)
      → function_again m n line t u ≡ Some a → FunctionAt (IsProper v t) k u t a
  function-again-goes k None n line t u i may f found a e =
      let few = length-append u.state.unit.functions (fresh-function n line t ∷ []) in
      as-function (IsProper v t) k u t (with_new_function n line t u) a e (record {
        goes = new-function-goes k n line t u i may found;
        there = omega (arith, few);
        signs = subst (λ (x : TypedFunction). Signs t x.t) (sym (last-at no_function u.state.unit.functions (fresh-function n line t))) (same-signs t);
        fixed = λ h. subst (λ (x : TypedFunction). IsFixed x.t) (sym (last-at no_function u.state.unit.functions (fresh-function n line t))) h;
      })
  function-again-goes k (Some (FunctionName g)) n line t u i may f found a e = by (are_compatible (function_at u.state.unit g).t t) refl e
    where
      by : (b : Bool) → are_compatible (function_at u.state.unit g).t t ≡ b → (if b then Some (g, record u { state = with_function_type g (composite_of (function_at u.state.unit g).t t) u.state }) else None) ≡ Some a
          → FunctionAt (IsProper v t) k u t a
      by true c q =
          let x = function_at u.state.unit g in
          let few = length-set u.state.unit.functions g (record x { t = composite_of x.t t }) in
          let there = f g refl in
          as-function (IsProper v t) k u t (g, record u { state = with_function_type g (composite_of x.t t) u.state }) a q (record {
            goes = composed-function-goes k g t u i there may.0 c;
            there = omega (arith, few, there);
            signs = subst (λ (z : TypedFunction). Signs t z.t) (sym (set-same no_function u.state.unit.functions g (record x { t = composite_of x.t t }) there)) (newer-signs x.t t (i.functions g there).shape (matching x.t t c));
            fixed = λ h. subst (λ (z : TypedFunction). IsFixed z.t) (sym (set-same no_function u.state.unit.functions g (record x { t = composite_of x.t t }) there)) (fixed-back x.t t (i.functions g there).shape may.0 (matching x.t t c) h);
          })
      by false c q = absurd cc
  function-again-goes k (Some (ObjectName o)) n line t u i may f found a e = absurd cc
  function-again-goes k (Some (TypedefOf w)) n line t u i may f found a e = absurd cc
  function-again-goes k (Some (ConstantOf c)) n line t u i may f found a e = absurd cc

  pub function-declared : (k : Option ℕ) (n line : ℕ) (t : Ty) (u : UnitState) → IsUnit v k u → is_function t ≡ true → (a : ℕ × UnitState) → function_declared n line t u ≡ Some a → FunctionAt (IsProper v t) k u t a
  function-declared k n line t u i g a e = by (may_have u.state.unit.names (unit_name n) t) refl e
    where
      by : (b : Bool) → may_have u.state.unit.names (unit_name n) t ≡ b → (if b then function_found n line t u else None) ≡ Some a → FunctionAt (IsProper v t) k u t a
      by true m q =
          function-again-goes k (find (innermost_scope u.state.scopes).names n) n line t u i (g, m)
          (λ f r. find-each (IsKnownMeaning (functions-of u.state)) n (innermost_scope u.state.scopes).names (each-at (AreKnownNames (functions-of u.state)) no_scope u.state.scopes (length u.state.scopes - 1) tt i.orderly.names) (FunctionName f) r) refl a q
      by false m q = absurd cc

  -- 6.7.6.3: without a body
  pub plain-function-goes : (k : Option ℕ) (t : Ty) (n : ℕ × ℕ) (unsized : Bool) (u w : UnitState) → IsUnit v k u → is_function t ≡ true → plain_function t n unsized u ≡ Some w → Goes (IsProper v t) v k u w
  plain-function-goes k t n unsized u w i g e =
      let a = from-some (function_declared n.0 n.1 t u) (λ a. Some (after_declaration true a.0 false false unsized a.1)) w e in
      let h = (function-declared k n.0 n.1 t u i g a.0 a.1).goes in
      as-goes v done (IsProper v t) k u (after_declaration true a.0.0 false false unsized a.0.1) w a.2
      (then-goes (IsProper v t) v k u a.0.1 (after_declaration true a.0.0 false false unsized a.0.1) h (noted-goes v done (IsProper v t) k a.0.1 true a.0.0 false false unsized h.unit (λ q. (refl, refl))))
