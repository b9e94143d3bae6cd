-- What typing keeps at file scope (C17 6.9): its objects and functions, and what each step from one external declaration to the next does.
use Rattle.std.proofs.Common.{◌≡◌, ℕ, zero, suc, ◌<◌, ◌≤◌, ◌+◌, ◌==◌, Bool, true, false, ◌&&◌, ◌||◌, Option, Some, None, is_some, List, [], ◌∷◌, ◌++◌, length, set, get_or, refl, sym, ap, subst, ◌∙◌, arith, length-append, length-set, ◌⊎◌, inl, inr}
use Rattle.std.specs.Prelude.{if◌then◌else◌}
use Rattle.std.specs.Bool.{beq}
use Rattle.std.proofs.lemmas.Bool.{eqb-true, eq-eqb}
use Rattle.pv_num.specs.declared.kinds.IntKind.TheVariants.{Int}
use Rattle.pv_types.specs.Layouts.{is_complete_in}
use Rattle.pv_types.specs.Ty.{Ty, Tys, NoTys, IntTy, FunctionTy}
use Rattle.pv_typed.specs.Known.{Each}
use Rattle.pv_typed.specs.Mains.{named_main}
use Rattle.pv_typed.proofs.Each.{each_weaker}
use Rattle.pv_typed.specs.TypedUnits.{WholeUnit, TypedObject, TypedFunction, layouts, object_at, function_at}
use Rattle.pv_typed.specs.UnitParts.{no_function}
use Rattle.pv_typed.specs.TypedTree.{is_function}
use Rattle.pv_check.specs.State.{State, Scope, Meaning, ObjectName, FunctionName, TypedefOf, ConstantOf}
use Rattle.pv_check.specs.Scopes.{find, innermost_scope}
use Rattle.pv_check.specs.ScopeParts.{with_meaning}
use Rattle.pv_unit.specs.Redeclarations.{Entity, UnitState, unit_name, is_entity, is_initialized, entities_after}
use Rattle.pv_guards.specs.Typed.{IsIn}
use Rattle.pv_guards.specs.TypedStatements.{IsDefinition}
use Rattle.pv_well_typed.specs.Later.{Later}
use Rattle.pv_well_typed.specs.ProperStates.{IsFixed, IsProperState, IsVisible, AreVisible}
use Rattle.pv_well_typed.proofs.PrimaryRows.{last-at}
use Rattle.pv_well_typed.proofs.Changes.{before-at, find-bound, find-itself}
use Rattle.pv_well_typed.proofs.TagRows.{bits-equal}
use Rattle.pv_well_typed.proofs.UnaryRows.{both-true}
use Rattle.pv_well_typed.proofs.Moving.{AreConstantStores, Grown, HasMade, Orderly, Moves, grown-before}
use Rattle.pv_well_typed.proofs.Walk.{U}
use Rattle.pv_well_typed.proofs.StatementRows.{Here}
use Rattle.pv_well_typed.proofs.StatementWalk.{count}

-- ---- objects and functions with a declaration at file scope (6.7p4)

abbrev pub HasEntity : Bool → ℕ → List Entity → Type 0
HasEntity f k [] = ⊥
HasEntity f k (e ∷ es) = (is_entity f k e ≡ true) ⊎ HasEntity f k es

-- the objects among them
abbrev pub declared-objects : List Entity → List ℕ
declared-objects [] = []
declared-objects (e ∷ es) = if e.function then declared-objects es else e.number ∷ declared-objects es

pub declared-has : (k : ℕ) (es : List Entity) → IsIn k (declared-objects es) → HasEntity false k es
declared-has k [] h = h
declared-has k (e ∷ es) h = by (declared-has k es) e.function refl h
  where
    by : (IsIn k (declared-objects es) → HasEntity false k es) → (b : Bool) → e.function ≡ b → IsIn k (if b then declared-objects es else e.number ∷ declared-objects es) → HasEntity false k (e ∷ es)
    by rest true q h = inr (rest h)
    by rest false q (inl same) = inl (subst (λ b. (beq b false && (e.number == k)) ≡ true) (sym q) (subst (λ i. (e.number == i) ≡ true) (sym same) (eq-eqb e.number e.number refl)))
    by rest false q (inr h) = inr (rest h)

pub has-declared : (k : ℕ) (es : List Entity) → HasEntity false k es → IsIn k (declared-objects es)
has-declared k [] h = absurd h
has-declared k (e ∷ es) (inl q) = by e.function refl
  where
    same : k ≡ e.number
    same = sym (eqb-true e.number k (both-true (beq e.function false) (e.number == k) q).1)

    no-function : e.function ≡ false
    no-function = bits-equal e.function false (both-true (beq e.function false) (e.number == k) q).0

    by : (b : Bool) → e.function ≡ b → IsIn k (if b then declared-objects es else e.number ∷ declared-objects es)
    by true f = let both : true ≡ false = sym f ∙ no-function in absurd cc
    by false f = inl same
has-declared k (e ∷ es) (inr h) = by e.function (has-declared k es h)
  where
    by : (b : Bool) → IsIn k (declared-objects es) → IsIn k (if b then declared-objects es else e.number ∷ declared-objects es)
    by true rest = rest
    by false rest = inr rest

pub has-front : (f : Bool) (k : ℕ) (es fs : List Entity) → HasEntity f k es → HasEntity f k (es ++ fs)
has-front f k (e ∷ es) fs (inl q) = inl q
has-front f k (e ∷ es) fs (inr h) = inr (has-front f k es fs h)
has-front f k [] fs h = absurd h

pub has-behind : (f : Bool) (k : ℕ) (es fs : List Entity) → HasEntity f k fs → HasEntity f k (es ++ fs)
has-behind f k [] fs h = h
has-behind f k (e ∷ es) fs h = inr (has-behind f k es fs h)

pub has-either : (f : Bool) (k : ℕ) (es fs : List Entity) → HasEntity f k (es ++ fs) → HasEntity f k es ⊎ HasEntity f k fs
has-either f k [] fs h = inr h
has-either f k (e ∷ es) fs (inl q) = inl (inl q)
has-either f k (e ∷ es) fs (inr h) = by (has-either f k es fs h)
  where
    by : HasEntity f k es ⊎ HasEntity f k fs → HasEntity f k (e ∷ es) ⊎ HasEntity f k fs
    by (inl g) = inl (inr g)
    by (inr g) = inr g

-- 6.9.2p1, p2: what a declaration says more of one of them changes neither its kind nor its number
pub marked-has : (g : Bool) (j : ℕ) (d i b : Bool) (f : Bool) (k : ℕ) (es : List Entity) → HasEntity f k (entities_after g j d i b es) → HasEntity f k es
marked-has g j d i b f k [] h = h
marked-has g j d i b f k (e ∷ es) h = by (marked-has g j d i b f k es) (is_entity g j e) h
  where
    by : (HasEntity f k (entities_after g j d i b es) → HasEntity f k es) → (c : Bool)
        → HasEntity f k (if c then record e { defined = e.defined || d; initialized = e.initialized || i; unsized = e.unsized || b } ∷ es else e ∷ entities_after g j d i b es) → HasEntity f k (e ∷ es)
    by rest true h = h
    by rest false (inl q) = inl q
    by rest false (inr h) = inr (rest h)

pub has-marked : (g : Bool) (j : ℕ) (d i b : Bool) (f : Bool) (k : ℕ) (es : List Entity) → HasEntity f k es → HasEntity f k (entities_after g j d i b es)
has-marked g j d i b f k [] h = h
has-marked g j d i b f k (e ∷ es) h = by (has-marked g j d i b f k es) (is_entity g j e) h
  where
    by : (HasEntity f k es → HasEntity f k (entities_after g j d i b es)) → (c : Bool) → HasEntity f k (e ∷ es) → HasEntity f k (if c then record e { defined = e.defined || d; initialized = e.initialized || i; unsized = e.unsized || b } ∷ es else e ∷ entities_after g j d i b es)
    by rest true h = h
    by rest false (inl q) = inl q
    by rest false (inr h) = inr (rest h)

-- 6.9p5: what has an initializer or a body has it still
pub initialized-marked : (g : Bool) (j : ℕ) (d i b : Bool) (k : ℕ) (es : List Entity) → is_initialized true k (entities_after g j d i b es) ≡ false → is_initialized true k es ≡ false
initialized-marked g j d i b k [] h = h
initialized-marked g j d i b k (e ∷ es) h = by (initialized-marked g j d i b k es) (is_entity g j e) h
  where
    either-false : (x y : Bool) → (x || y) ≡ false → x ≡ false
    either-false true y q = absurd cc
    either-false false y q = refl

    same : (f : Bool) → (if f then e.initialized || i else is_initialized true k es) ≡ false → (if f then e.initialized else is_initialized true k es) ≡ false
    same true q = either-false e.initialized i q
    same false q = q

    other : (f : Bool) → (is_initialized true k (entities_after g j d i b es) ≡ false → is_initialized true k es ≡ false) → (if f then e.initialized else is_initialized true k (entities_after g j d i b es)) ≡ false
        → (if f then e.initialized else is_initialized true k es) ≡ false
    other true rest q = q
    other false rest q = rest q

    by : (is_initialized true k (entities_after g j d i b es) ≡ false → is_initialized true k es ≡ false) → (c : Bool)
        → is_initialized true k (if c then record e { defined = e.defined || d; initialized = e.initialized || i; unsized = e.unsized || b } ∷ es else e ∷ entities_after g j d i b es) ≡ false
        → is_initialized true k (e ∷ es) ≡ false
    by rest true h = same (is_entity true k e) h
    by rest false h = other (is_entity true k e) rest h

pub initialized-front : (k : ℕ) (es fs : List Entity) → is_initialized true k (es ++ fs) ≡ false → is_initialized true k es ≡ false
initialized-front k [] fs h = refl
initialized-front k (e ∷ es) fs h = by (is_entity true k e) (initialized-front k es fs) h
  where
    by : (f : Bool) → (is_initialized true k (es ++ fs) ≡ false → is_initialized true k es ≡ false) → (if f then e.initialized else is_initialized true k (es ++ fs)) ≡ false → (if f then e.initialized else is_initialized true k es) ≡ false
    by true r q = q
    by false r q = r q

-- ---- names of functions (6.2.1p2, 6.7p3): each stands in the file's scope, so that no two functions have one

pub record AreFound (fs : List TypedFunction) (ns : List (ℕ × Meaning)) : Type 0 where
  pub found : (f : ℕ) → f < length fs → (n : ℕ) × (((get_or fs f no_function).name ≡ unit_name n) × (is_some (find ns n) ≡ true))
  pub apart : (f g : ℕ) → f < length fs → g < length fs → (get_or fs f no_function).name ≡ (get_or fs g no_function).name → f ≡ g

pub found-more : (fs gs : List TypedFunction) (ns ms : List (ℕ × Meaning)) → gs ≡ fs → ((n : ℕ) → is_some (find ns n) ≡ true → is_some (find ms n) ≡ true) → AreFound fs ns → AreFound gs ms
found-more fs gs ns ms e more h = subst (λ hs. AreFound hs ms) (sym e) (record { found = λ f lt. let z = h.found f lt in (z.0, (z.1.0, more z.0 z.1.1)); apart = h.apart })

name-set : (fs : List TypedFunction) (f : ℕ) (y : TypedFunction) (g : ℕ) → y.name ≡ (get_or fs f no_function).name → (get_or (set fs f y) g no_function).name ≡ (get_or fs g no_function).name
name-set [] f y g e = refl
name-set (x ∷ fs) zero y zero e = e
name-set (x ∷ fs) zero y (suc g) e = refl
name-set (x ∷ fs) (suc f) y zero e = refl
name-set (x ∷ fs) (suc f) y (suc g) e = name-set fs f y g e

pub found-set : (fs : List TypedFunction) (ns : List (ℕ × Meaning)) (f : ℕ) (y : TypedFunction) → y.name ≡ (get_or fs f no_function).name → AreFound fs ns → AreFound (set fs f y) ns
found-set fs ns f y e h =
    let few = length-set fs f y in
    record {
      found = λ g lt. subst (λ k. (n : ℕ) × ((k ≡ unit_name n) × (is_some (find ns n) ≡ true))) (sym (name-set fs f y g e)) (h.found g (omega (arith, lt, few)));
      apart = λ g j less fewer q. h.apart g j (omega (arith, less, few)) (omega (arith, fewer, few)) (sym (name-set fs f y g e) ∙ q ∙ name-set fs f y j e);
    }

pub found-new : (fs : List TypedFunction) (ns : List (ℕ × Meaning)) (x : TypedFunction) (n : ℕ) (m : Meaning) → x.name ≡ unit_name n → find ns n ≡ None → AreFound fs ns → AreFound (fs ++ (x ∷ [])) (with_meaning n m ns)
found-new fs ns x n m named none h =
    let few = length-append fs (x ∷ []) in
    record { found = λ f lt. at f (either f (length fs)) lt few; apart = λ f g less fewer q. by f g (either f (length fs)) (either g (length fs)) less fewer few q }
  where
    either : (o n : ℕ) → (o < n) ⊎ (n ≤ o)
    either o n = grind arith

    before : (f : ℕ) → f < length fs → (get_or (fs ++ (x ∷ [])) f no_function).name ≡ (get_or fs f no_function).name
    before f lt = ap (λ (y : TypedFunction). y.name) (before-at no_function fs (x ∷ []) f lt)

    last : (f : ℕ) → length fs ≤ f → f < length (fs ++ (x ∷ [])) → length (fs ++ (x ∷ [])) ≡ length fs + 1 → (length fs ≡ f) × ((get_or (fs ++ (x ∷ [])) f no_function).name ≡ unit_name n)
    last f le lt few =
        let same : length fs ≡ f = omega (arith, le, lt, few) in
        (same, ap (λ (y : TypedFunction). y.name) (subst (λ j. get_or (fs ++ (x ∷ [])) j no_function ≡ x) same (last-at no_function fs x)) ∙ named)

    at : (f : ℕ) → (f < length fs) ⊎ (length fs ≤ f) → f < length (fs ++ (x ∷ [])) → length (fs ++ (x ∷ [])) ≡ length fs + 1
        → (k : ℕ) × (((get_or (fs ++ (x ∷ [])) f no_function).name ≡ unit_name k) × (is_some (find (with_meaning n m ns) k) ≡ true))
    at f (inl lt) l few = let z = h.found f lt in (z.0, (before f lt ∙ z.1.0, find-bound n z.0 m ns z.1.1))
    at f (inr le) lt few = (n, ((last f le lt few).1, find-itself n m ns))

    -- none of those before has the new one's name
    other : (f : ℕ) → f < length fs → (get_or fs f no_function).name ≡ unit_name n → ⊥
    other f lt e =
        let z = h.found f lt in
        let a = z.1.0 in
        let same : z.0 ≡ n = omega (arith, a, e) in
        let both : true ≡ false = sym z.1.1 ∙ ap (λ k. is_some (find ns k)) same ∙ ap is_some none in
        absurd cc

    by : (f g : ℕ) → (f < length fs) ⊎ (length fs ≤ f) → (g < length fs) ⊎ (length fs ≤ g) → f < length (fs ++ (x ∷ [])) → g < length (fs ++ (x ∷ [])) → length (fs ++ (x ∷ [])) ≡ length fs + 1
        → (get_or (fs ++ (x ∷ [])) f no_function).name ≡ (get_or (fs ++ (x ∷ [])) g no_function).name → f ≡ g
    by f g (inl a) (inl b) less fewer few q = h.apart f g a b (sym (before f a) ∙ q ∙ before g b)
    by f g (inl a) (inr b) less fewer few q = absurd (other f a (sym (before f a) ∙ q ∙ (last g b fewer few).1))
    by f g (inr a) (inl b) less fewer few q = absurd (other g b (sym (before g b) ∙ sym q ∙ (last f a less few).1))
    by f g (inr a) (inr b) less fewer few q = sym (last f a less few).0 ∙ (last g b fewer few).0

-- ---- what is so of a unit behind some of its declarations

-- one of them: an object has static storage; a function has its name, and a body where it is defined, but for the one whose body is typed
pub record IsEntityOf (open-one : Option ℕ) (u : WholeUnit) (e : Entity) : Type 0 where
  pub object : e.function ≡ false → (e.number < length u.objects) × ((object_at u e.number).lasting ≡ true)
  pub function : e.function ≡ true → (e.number < length u.functions) × ((function_at u e.number).name ≡ unit_name e.name)
  pub defined : e.function ≡ true → e.defined ≡ true → (open-one ≡ Some e.number) ⊎ (is_some (function_at u e.number).body ≡ true)

-- a function: it is declared at file scope; it has `...` where it has no body alone, and parameters where it has one; `main` is `int (void)`
pub record IsFunctionOf (u : WholeUnit) (es : List Entity) (f : ℕ) : Type 0 where
  pub declared : HasEntity true f es
  pub shape : is_function (function_at u f).t ≡ true
  pub fixed : is_some (function_at u f).body ≡ true → IsFixed (function_at u f).t
  pub unset : is_some (function_at u f).body ≡ false → (function_at u f).params ≡ []
  pub fresh : is_initialized true f es ≡ false → is_some (function_at u f).body ≡ false
  pub main : named_main u.names (function_at u f).name ≡ true → (function_at u f).t ≡ FunctionTy (IntTy Int) NoTys false

-- a unit in which no object has static storage: an object is visible there where it is one of these alone
abbrev pub blank : WholeUnit → WholeUnit
blank v = record v { objects = [] }

pub record IsUnit (v : WholeUnit) (k : Option ℕ) (u : UnitState) : Type 0 where
  pub file : length u.state.scopes ≡ 1
  pub evaluated : u.state.unevaluated ≡ false
  pub unnoted : (u.state.unit.statics ≡ []) × (u.state.unit.placed ≡ [])
  pub orderly : Orderly u.state
  pub names : AreVisible (blank v) (declared-objects u.entities) u.state.scopes
  pub entities : Each (IsEntityOf k u.state.unit) u.entities
  pub functions : (f : ℕ) → f < length u.state.unit.functions → IsFunctionOf u.state.unit u.entities f
  pub found : AreFound u.state.unit.functions (innermost_scope u.state.scopes).names

-- ---- what is so of it, told of the unit at its end

-- an object: what initializes it is constant where it has static storage; one of a block is complete
pub record ObjectIs (v u : WholeUnit) (es : List Entity) (o : ℕ) : Type 0 where
  pub constants : (object_at u o).lasting ≡ true → AreConstantStores v (object_at u o).t (object_at u o).inits
  pub complete : (HasEntity false o es → ⊥) → (object_at u o).lasting ≡ true → is_complete_in (layouts v) (object_at u o).t ≡ true

-- a function, by the type that it has at the end
abbrev pub FunctionIs : WholeUnit → ℕ → TypedFunction → Type 0
FunctionIs v f x = (r : Ty) (ts : Tys) → (function_at v f).t ≡ FunctionTy r ts false → IsDefinition v r ts x.params x.body

-- 6.2.1p4: the objects of blocks are in the later unit as they are here
abbrev pub Stays : WholeUnit → UnitState → Type 0
Stays v u = (o : ℕ) → o < count u.state → (HasEntity false o u.entities → ⊥) → object_at v o ≡ object_at u.state.unit o

pub record UnitIs (v : WholeUnit) (u : UnitState) : Type 0 where
  pub proper : IsProperState v u.state
  pub objects : Grown v u.state → (o : ℕ) → o < count u.state → ObjectIs v u.state.unit u.entities o
  pub functions : Stays v u → (f : ℕ) → f < length u.state.unit.functions → FunctionIs v f (function_at u.state.unit f)

-- one step, behind which it is a unit: B is known before
pub record Goes (B : Type 0) (v : WholeUnit) (k : Option ℕ) (u w : UnitState) : Type 0 where
  pub later : Later w.state v → Later u.state v
  pub grown : Grown v w.state → Grown v u.state
  pub stays : Stays v w → Stays v u
  pub count : count u.state ≤ count w.state
  pub functions : length u.state.unit.functions ≤ length w.state.unit.functions
  pub unit : IsUnit v k w
  pub is : B → Later w.state v → UnitIs v u → UnitIs v w

pub lead-goes : (B C : Type 0) (v : WholeUnit) (j k : Option ℕ) (u w z : UnitState) → Goes B v j u w → (B → Later w.state v → UnitIs v u → C) → Goes C v k w z → Goes B v k u z
lead-goes B C v j k u w z h f g = record {
  later = λ l. h.later (g.later l);
  grown = λ e. h.grown (g.grown e);
  stays = λ e. h.stays (g.stays e);
  count = let x = h.count in let y = g.count in omega (arith, x, y);
  functions = let x = h.functions in let y = g.functions in omega (arith, x, y);
  unit = g.unit;
  is = λ b l s. let m = g.later l in g.is (f b m s) l (h.is b m s);
}

pub then-goes : (B : Type 0) (v : WholeUnit) (k : Option ℕ) (u w z : UnitState) → Goes B v k u w → Goes B v k w z → Goes B v k u z
then-goes B v k u w z h g = lead-goes B B v k k u w z h (λ b l s. b) g

pub same-goes : (B : Type 0) (v : WholeUnit) (k : Option ℕ) (u : UnitState) → IsUnit v k u → Goes B v k u u
same-goes B v k u i = record { later = λ l. l; grown = λ e. e; stays = λ e. e; count = omega arith; functions = omega arith; unit = i; is = λ b l s. s }

-- an object of file scope is there, and has static storage
pub entity-found : (k : Option ℕ) (u : WholeUnit) (o : ℕ) (es : List Entity) → Each (IsEntityOf k u) es → HasEntity false o es → (o < length u.objects) × ((object_at u o).lasting ≡ true)
entity-found k u o (e ∷ es) h (inl q) =
    let b = both-true (beq e.function false) (e.number == o) q in
    subst (λ j. (j < length u.objects) × ((object_at u j).lasting ≡ true)) (eqb-true e.number o b.1) (h.0.object (bits-equal e.function false b.0))
entity-found k u o (e ∷ es) h (inr q) = entity-found k u o es h.1 q
entity-found k u o [] h q = absurd q

-- names of file scope stand for objects with static storage
pub unit-here : (v : WholeUnit) (k : Option ℕ) (u : UnitState) → IsUnit v k u → Later u.state v → Here v [] u.state
unit-here v k u i l = record {
  evaluated = i.evaluated;
  visible = each_weaker _ _ (λ (x : Scope) h. each_weaker _ _ (λ (e : ℕ × Meaning) q. one e.1 q) x.names h) u.state.scopes i.names;
}
  where
    one : (m : Meaning) → IsVisible (blank v) (declared-objects u.entities) m → IsVisible v [] m
    one (ObjectName o) q = λ e.
        let z = entity-found k u.state.unit o u.entities i.entities (declared-has o u.entities (q refl)) in
        let both : true ≡ false = sym (l.unit.lasting o z.0 ∙ z.1) ∙ e in
        absurd cc
    one (FunctionName f) q = tt
    one (TypedefOf t) q = tt
    one (ConstantOf n) q = tt

-- ---- a change of the state alone

pub entity-kept : (k : Option ℕ) (s t : State) (F : Type 0) (v : WholeUnit) (os : List ℕ) → Moves F v os s t → (e : Entity) → IsEntityOf k s.unit e → IsEntityOf k t.unit e
entity-kept k s t F v os m e h =
    let functions = m.functions in
    record {
      object = λ f. let z = h.object f in let more = m.count in let few = z.0 in (omega (arith, more, few), ap (λ (x : TypedObject). x.lasting) (m.older e.number z.0) ∙ z.1);
      function = λ f. subst (λ (fs : List TypedFunction). (e.number < length fs) × ((get_or fs e.number no_function).name ≡ unit_name e.name)) (sym functions) (h.function f);
      defined = λ f d. subst (λ (fs : List TypedFunction). (k ≡ Some e.number) ⊎ (is_some (get_or fs e.number no_function).body ≡ true)) (sym functions) (h.defined f d);
    }

pub function-kept : (u w : WholeUnit) (es : List Entity) (f : ℕ) → w.functions ≡ u.functions → w.names ≡ u.names → IsFunctionOf u es f → IsFunctionOf w es f
function-kept u w es f e n h = record {
  declared = h.declared;
  shape = subst (λ (fs : List TypedFunction). is_function (get_or fs f no_function).t ≡ true) (sym e) h.shape;
  fixed = λ b. subst (λ (fs : List TypedFunction). IsFixed (get_or fs f no_function).t) (sym e) (h.fixed (subst (λ (fs : List TypedFunction). is_some (get_or fs f no_function).body ≡ true) e b));
  unset = λ b. subst (λ (fs : List TypedFunction). (get_or fs f no_function).params ≡ []) (sym e) (h.unset (subst (λ (fs : List TypedFunction). is_some (get_or fs f no_function).body ≡ false) e b));
  fresh = λ b. subst (λ (fs : List TypedFunction). is_some (get_or fs f no_function).body ≡ false) (sym e) (h.fresh b);
  main = λ b.
      subst (λ (fs : List TypedFunction). (get_or fs f no_function).t ≡ FunctionTy (IntTy Int) NoTys false) (sym e)
      (h.main (subst (λ names. named_main names (function_at u f).name ≡ true) n (subst (λ (fs : List TypedFunction). named_main w.names (get_or fs f no_function).name ≡ true) e b)));
}

pub object-kept : (v u w : WholeUnit) (es : List Entity) (o : ℕ) → object_at w o ≡ object_at u o → ObjectIs v u es o → ObjectIs v w es o
object-kept v u w es o e h = record {
  constants = λ l. subst (λ (x : TypedObject). AreConstantStores v x.t x.inits) (sym e) (h.constants (sym (ap (λ (x : TypedObject). x.lasting) e) ∙ l));
  complete = λ n l. subst (λ (x : TypedObject). is_complete_in (layouts v) x.t ≡ true) (sym e) (h.complete n (sym (ap (λ (x : TypedObject). x.lasting) e) ∙ l));
}

-- specifiers, declarators, what initializers are typed in, bodies
pub state-goes : (B : Type 0) (v : WholeUnit) (k : Option ℕ) (u : UnitState) (t : State) → IsUnit v k u → Moves U v [] u.state t
    → (B → Later t v → IsProperState v u.state → IsProperState v t × HasMade v u.state t) → Goes B v k u (record u { state = t })
state-goes B v k u t i m h = record {
  later = m.later;
  grown = λ k. grown-before U v [] u.state t m k;
  stays = λ k o lt none. let more = m.count in k o (omega (arith, more, lt)) none ∙ m.older o lt;
  count = m.count;
  functions = let e = ap (λ (fs : List TypedFunction). length fs) m.functions in omega (arith, e);
  unit = record {
    file = m.outer.deep ∙ i.file;
    evaluated = m.evaluated ∙ i.evaluated;
    unnoted = (m.noted.0 ∙ i.unnoted.0, m.noted.1 ∙ i.unnoted.1);
    orderly = m.orderly i.orderly;
    names = m.names tt (blank v) (declared-objects u.entities) i.names;
    entities = each_weaker (IsEntityOf k u.state.unit) (IsEntityOf k t.unit) (λ (e : Entity) q. entity-kept k u.state t U v [] m e q) u.entities i.entities;
    functions = λ f lt. function-kept u.state.unit t.unit u.entities f m.functions m.spelled (i.functions f (subst (λ (fs : List TypedFunction). f < length fs) m.functions lt));
    found = found-more u.state.unit.functions t.unit.functions (innermost_scope u.state.scopes).names (innermost_scope t.scopes).names m.functions m.outer.finds i.found;
  };
  is = λ b l s.
      let z = h b l s.proper in
      record {
        proper = z.0;
        objects = λ g o lt. at z.1 g (s.objects (grown-before U v [] u.state t m g)) o lt (either o (count u.state));
        functions = λ g f lt.
            let few = subst (λ (fs : List TypedFunction). f < length fs) m.functions lt in
            let before = s.functions (λ o lt none. let more = m.count in g o (omega (arith, more, lt)) none ∙ m.older o lt) f few in
            subst (λ (fs : List TypedFunction). FunctionIs v f (get_or fs f no_function)) (sym m.functions) before;
      };
}
  where
    either : (o n : ℕ) → (o < n) ⊎ (n ≤ o)
    either o n = grind arith

    at : HasMade v u.state t → Grown v t → ((o : ℕ) → o < count u.state → ObjectIs v u.state.unit u.entities o) → (o : ℕ) → o < count t → (o < count u.state) ⊎ (count u.state ≤ o) → ObjectIs v t.unit u.entities o
    at made g old o lt (inl few) = object-kept v u.state.unit t.unit u.entities o (m.older o few) (old o few)
    at made g old o lt (inr from) = record { constants = λ l. (made g o from lt l).constants; complete = λ none l. (made g o from lt l).complete }
