-- What typing does to its state, and what it gives (C17 6.5, 6.7): a unit that is later than the state behind is later than the one before.
use Rattle.std.proofs.Common.{◌≡◌, ◌≢◌, ℕ, zero, suc, ◌<◌, ◌≤◌, ◌-◌, ◌+◌, ◌^◌, Bool, true, false, Option, Some, None, is_some, List, [], ◌∷◌, ◌++◌, length, take, set, get_or, refl, sym, ap, subst, ◌∙◌, arith, length-append, length-set, append_assoc, append-nil, ◌⊎◌, inl, inr}
use Rattle.std.specs.Prelude.{if◌then◌else◌}
use Rattle.pv_types.specs.Layouts.{Entry, Layout, AllFill, up_to, layout_in, is_complete_in}
use Rattle.pv_types.proofs.LayoutLaws.{layout-append, complete-append}
use Rattle.pv_types.specs.Ty.{Ty, StructTag}
use Rattle.pv_typed.specs.Known.{Each}
use Rattle.pv_typed.proofs.Each.{each_append}
use Rattle.pv_typed.specs.Addresses.{size_in}
use Rattle.pv_typed.specs.AddressParts.{or_zero}
use Rattle.pv_typed.specs.TypedTree.{TypedTree}
use Rattle.pv_typed.specs.TypedUnits.{WholeUnit, TypedObject, TypedFunction, Literal, Store, layouts, object_at}
use Rattle.pv_typed.specs.UnitParts.{no_function, no_literal}
use Rattle.pv_library.specs.LibraryNames.{library_named}
use Rattle.pv_check.specs.Rows.{operand, integer_value}
use Rattle.pv_check.specs.State.{State, Used, UsedObject, UsedFunction, PointedFunction, Meaning, ObjectName, FunctionName, TypedefOf, ConstantOf, After, Scope, give, env}
use Rattle.pv_check.specs.Scopes.{no_scope, find, innermost_scope, in_new_scope, behind_scope}
use Rattle.pv_typed.specs.Constants.{and_then, integer}
use Rattle.pv_check.specs.Values.{value_of}
use Rattle.pv_eval.specs.Objects.{heap_name}
use Rattle.pv_unit.specs.Redeclarations.{unit_name}
use Rattle.pv_guards.specs.TypedStatements.{IsConstant}
use Rattle.pv_well_typed.specs.Later.{IsFinished, Later}
use Rattle.pv_well_typed.proofs.Sources.{AreBytes, letters}
use Rattle.pv_well_typed.specs.ProperStates.{IsScope, IsProperState, AreVisible}
use Rattle.pv_well_typed.proofs.Changes.{take-set}
use Rattle.pv_well_typed.proofs.Operands.{IsExpression, IsOperand, value-row, some-same}

-- the layouts of completed tags are those of before, perhaps with more behind
abbrev pub Grows : List Entry → List Entry → Type 0
Grows es fs = (more : List Entry) × (fs ≡ es ++ more)

pub then-grows : (es fs gs : List Entry) → Grows es fs → Grows fs gs → Grows es gs
then-grows es fs gs h g = (h.0 ++ g.0, g.1 ∙ ap (λ (xs : List Entry). xs ++ g.0) h.1 ∙ append_assoc es h.0 g.0)

-- 6.2.1p4: there are as many scopes, and those around the innermost are the same
pub record Outer (ss ts : List Scope) : Type 0 where
  pub deep : length ts ≡ length ss
  pub same : take (length ss - 1) ts ≡ take (length ss - 1) ss
  pub finds : (n : ℕ) → is_some (find (innermost_scope ss).names n) ≡ true → is_some (find (innermost_scope ts).names n) ≡ true

pub same-outer : (ss : List Scope) → Outer ss ss
same-outer ss = record { deep = refl; same = refl; finds = λ n h. h }

pub then-outer : (ss ts us : List Scope) → Outer ss ts → Outer ts us → Outer ss us
then-outer ss ts us h g = record {
  deep = g.deep ∙ h.deep;
  same = subst (λ n. take (n - 1) us ≡ take (n - 1) ts) h.deep g.same ∙ h.same;
  finds = λ n q. g.finds n (h.finds n q);
}

set-there : (z x : Scope) (ss : List Scope) (i : ℕ) → i < length ss → get_or (set ss i x) i z ≡ x
set-there z x [] i lt = absurd (omega (arith, lt))
set-there z x (y ∷ ys) zero lt = refl
set-there z x (y ∷ ys) (suc i) lt = set-there z x ys i (omega (arith, lt))

pub inner-set : (ss : List Scope) (x : Scope) → 0 < length ss → innermost_scope (set ss (length ss - 1) x) ≡ x
inner-set ss x some = ap (λ k. get_or (set ss (length ss - 1) x) (k - 1) no_scope) (length-set ss (length ss - 1) x) ∙ set-there no_scope x ss (length ss - 1) (omega (arith, some))

-- 6.2.1p7: a name that has a meaning in the innermost scope has one there behind it
set-finds : (ss : List Scope) (x : Scope) → ((n : ℕ) → is_some (find (innermost_scope ss).names n) ≡ true → is_some (find x.names n) ≡ true) → (n : ℕ) → is_some (find (innermost_scope ss).names n) ≡ true
    → is_some (find (innermost_scope (set ss (length ss - 1) x)).names n) ≡ true
set-finds [] x more n h = h
set-finds (y ∷ ys) x more n h = subst (λ (z : Scope). is_some (find z.names n) ≡ true) (sym (inner-set (y ∷ ys) x (omega arith))) (more n h)

pub set-outer : (ss : List Scope) (x : Scope) → ((n : ℕ) → is_some (find (innermost_scope ss).names n) ≡ true → is_some (find x.names n) ≡ true) → Outer ss (set ss (length ss - 1) x)
set-outer ss x more = record { deep = length-set ss (length ss - 1) x; same = take-set ss (length ss - 1) x; finds = set-finds ss x more }

-- ---- 6.2.1, 6.4.5, 6.9p5: what typing keeps of what it has seen

-- a function that a name stands for is there
abbrev pub IsKnownMeaning : (functions : ℕ) → Meaning → Type 0
IsKnownMeaning n (ObjectName o) = Unit {0}
IsKnownMeaning n (FunctionName f) = f < n
IsKnownMeaning n (TypedefOf t) = Unit {0}
IsKnownMeaning n (ConstantOf k) = Unit {0}

abbrev pub AreKnownNames : (functions : ℕ) → Scope → Type 0
AreKnownNames n x = Each (λ (e : ℕ × Meaning). IsKnownMeaning n e.1) x.names

-- 6.9p5: an expression names a function that is there; one that is pointed to is none of the library's (our choice)
abbrev pub IsKnownUse : (spelling : List (List ℕ)) → (declared : List TypedFunction) → Used → Type 0
IsKnownUse ns fs (UsedObject o) = Unit {0}
IsKnownUse ns fs (UsedFunction f) = f < length fs
IsKnownUse ns fs (PointedFunction f) = (f < length fs) × (library_named (get_or ns (get_or fs f no_function).name []) ≡ None)

-- 6.4.5, 5.2.4.1p1: the texts of a source are bytes, fewer than 2 ^ 32; so it is with a string literal that is made of some of them, and its zero
abbrev pub AreTexts : List (List ℕ) → Type 0
AreTexts texts = Each AreBytes texts × (letters texts < 2 ^ 32)

abbrev pub IsText : List ℕ → Type 0
IsText bytes = AreBytes bytes × (1 ≤ length bytes) × (length bytes ≤ 2 ^ 32)

abbrev pub IsWritten : Literal → Type 0
IsWritten x = AreBytes x.bytes × (length x.bytes ≤ 2 ^ 32)

-- 6.7.2.1p8, 5.2.4.1p1: each structure and union that is completed has a byte, and none is larger than 2 ^ 32 bytes
pub record AreLaid (es : List Entry) : Type 0 where
  pub filled : AllFill es
  pub small : (n : ℕ) → (layout_in es (StructTag n)).size ≤ 2 ^ 32

-- 6.4.2.1p1, 7.22.3: an object's name is not that of allocations, which no identifier is
abbrev pub IsApart : TypedObject → Type 0
IsApart x = x.name ≢ heap_name

pub identifier-apart : (m n : ℕ) → m ≡ unit_name n → m ≢ heap_name
identifier-apart m n is e = omega (arith, is, e)

-- functions that names stand for and that expressions named, the texts of the source, and string literals, of which an instance has its zero (6.4.5p6);
-- the layouts of structures and unions, and the names of objects
pub record IsOrderly (spelling : List (List ℕ)) (declared : List TypedFunction) (scopes : List Scope) (used : List Used) (texts : List (List ℕ)) (literals : List Literal) (instances : List ℕ) (entries : List Entry) (objects : List TypedObject) : Type 0 where
  pub names : Each (AreKnownNames (length declared)) scopes
  pub uses : Each (IsKnownUse spelling declared) used
  pub sources : AreTexts texts
  pub written : Each IsWritten literals
  pub ended : Each (λ l. 1 ≤ length (get_or literals l no_literal).bytes) instances
  pub laid : AreLaid entries
  pub apart : Each IsApart objects

abbrev pub Orderly : State → Type 0
Orderly s = IsOrderly s.unit.names s.unit.functions s.scopes s.used s.texts s.unit.literals s.unit.instances (env s) s.unit.objects

-- typing goes from one state to another. F: it isn't a list of parameters, whose objects stand in their own scope
pub record Moves (F : Type 0) (v : WholeUnit) (os : List ℕ) (s t : State) : Type 0 where
  pub later : Later t v → Later s v
  pub outer : Outer s.scopes t.scopes
  pub grows : Grows (env s) (env t)
  pub names : F → (w : WholeUnit) (ps : List ℕ) → AreVisible w ps s.scopes → AreVisible w ps t.scopes
  pub evaluated : t.unevaluated ≡ s.unevaluated
  pub functions : t.unit.functions ≡ s.unit.functions
  pub spelled : t.unit.names ≡ s.unit.names
  pub noted : (t.unit.statics ≡ s.unit.statics) × (t.unit.placed ≡ s.unit.placed)
  pub orderly : Orderly s → Orderly t
  pub count : length s.unit.objects ≤ length t.unit.objects
  pub older : (o : ℕ) → o < length s.unit.objects → object_at t.unit o ≡ object_at s.unit o

-- 6.7.9p4, p11: stores of an initializer that are constants of their types, and lie within an object of this type
abbrev pub AreConstantStores : WholeUnit → Ty → List Store → Type 0
AreConstantStores v t xs = Each (λ (x : Store). (x.offset + (layout_in (layouts v) x.t).size ≤ (layout_in (layouts v) t).size) × IsConstant v x.t x.what) xs

-- 6.2.4p3, 6.7p7: an object with static storage has a complete type, and is initialized with constants
pub record IsStatic (v : WholeUnit) (x : TypedObject) : Type 0 where
  pub complete : is_complete_in (layouts v) x.t ≡ true
  pub constants : AreConstantStores v x.t x.inits

-- 6.2.7p4: each object is as large in the later unit as it is here, where its type is complete
abbrev pub Grown : WholeUnit → State → Type 0
Grown v t = (o : ℕ) → o < length t.unit.objects → or_zero (size_in t.unit (object_at t.unit o).t) ≤ or_zero (size_in v (object_at v o).t)

-- the objects with static storage that typing makes between two states are so
abbrev pub StaticsMade : WholeUnit → (before behind : State) → Type 0
StaticsMade v s t = Grown v t → (o : ℕ) → length s.unit.objects ≤ o → o < length t.unit.objects → (object_at t.unit o).lasting ≡ true → IsStatic v (object_at t.unit o)

size-more : (es more : List Entry) (t : Ty)
    → or_zero (if is_complete_in es t then up_to (layout_in es t).size else None) ≤ or_zero (if is_complete_in (es ++ more) t then up_to (layout_in (es ++ more) t).size else None)
size-more es more t = by (is_complete_in es t) refl
  where
    by : (b : Bool) → is_complete_in es t ≡ b → or_zero (if b then up_to (layout_in es t).size else None) ≤ or_zero (if is_complete_in (es ++ more) t then up_to (layout_in (es ++ more) t).size else None)
    by false e = omega arith
    by true e =
        subst (λ c. or_zero (up_to (layout_in es t).size) ≤ or_zero (if c then up_to (layout_in (es ++ more) t).size else None)) (sym (complete-append es more t e ∙ e))
        (subst (λ (l : Layout). or_zero (up_to (layout_in es t).size) ≤ or_zero (up_to l.size)) (sym (layout-append es more t e)) (omega arith))

-- 6.2.7p3: a type that is complete stays so, with its size
pub size-grown : (es fs : List Entry) (t : Ty) → Grows es fs
    → or_zero (if is_complete_in es t then up_to (layout_in es t).size else None) ≤ or_zero (if is_complete_in fs t then up_to (layout_in fs t).size else None)
size-grown es fs t g =
    subst (λ (xs : List Entry). or_zero (if is_complete_in es t then up_to (layout_in es t).size else None) ≤ or_zero (if is_complete_in xs t then up_to (layout_in xs t).size else None)) (sym g.1) (size-more es g.0 t)

-- what typing makes between two states
abbrev pub HasMade : WholeUnit → (before behind : State) → Type 0
HasMade v s t = StaticsMade v s t

-- where no object is made
pub none-made : (v : WholeUnit) (s t : State) → length t.unit.objects ≡ length s.unit.objects → HasMade v s t
none-made v s t e k o from below lasting = absurd (omega (arith, from, below, e))

-- what is typed has Q, in a state that is later, where P was known before and the types are as declarations make them
pub record Gives {A : Type 0} (F : Type 0) (v : WholeUnit) (os : List ℕ) (P : Type 0) (s : State) (Q : After A → Type 0) (o : Option (After A)) : Type 0 where
  pub held : (a : After A) → o ≡ Some a → Moves F v os s a.state × (Later a.state v → P → IsProperState v s → IsProperState v a.state × Q a × HasMade v s a.state)

module _ (F : Type 0) (v : WholeUnit) (os : List ℕ) where
  pub same-moves : (s : State) → Moves F v os s s
  same-moves s = record { later = λ l. l; outer = same-outer s.scopes; grows = ([], sym (append-nil (env s))); names = λ f w ps h. h; evaluated = refl; functions = refl; spelled = refl; noted = (refl, refl); orderly = λ h. h; count = omega arith; older = λ o lt. refl }

  pub then-moves : (s t u : State) → Moves F v os s t → Moves F v os t u → Moves F v os s u
  then-moves s t u h g = record {
    later = λ l. h.later (g.later l);
    outer = then-outer s.scopes t.scopes u.scopes h.outer g.outer;
    grows = then-grows (env s) (env t) (env u) h.grows g.grows;
    names = λ f w ps k. g.names f w ps (h.names f w ps k);
    evaluated = g.evaluated ∙ h.evaluated;
    functions = g.functions ∙ h.functions;
    spelled = g.spelled ∙ h.spelled;
    noted = (g.noted.0 ∙ h.noted.0, g.noted.1 ∙ h.noted.1);
    orderly = λ k. g.orderly (h.orderly k);
    count = let x = h.count in let y = g.count in omega (arith, x, y);
    older = λ o lt. let x = h.count in g.older o (omega (arith, x, lt)) ∙ h.older o lt;
  }

  pub grown-before : (t u : State) → Moves F v os t u → Grown v u → Grown v t
  grown-before t u m k o lt =
      let few = m.count in
      let wide = k o (omega (arith, lt, few)) in
      let same = subst (λ (x : TypedObject). or_zero (size_in u.unit x.t) ≤ or_zero (size_in v (object_at v o).t)) (m.older o lt) wide in
      let more = size-grown (env t) (env u) (object_at t.unit o).t m.grows in
      omega (arith, same, more)

  pub then-made : (s t u : State) → Moves F v os t u → HasMade v s t → HasMade v t u → HasMade v s u
  then-made s t u m h g k o from below lasting = by (either o (length t.unit.objects))
    where
      either : (o n : ℕ) → (o < n) ⊎ (n ≤ o)
      either o n = grind arith

      by : (o < length t.unit.objects) ⊎ (length t.unit.objects ≤ o) → IsStatic v (object_at u.unit o)
      by (inl lt) = subst (IsStatic v) (sym (m.older o lt)) (h (grown-before t u m k) o from lt (sym (ap (λ (x : TypedObject). x.lasting) (m.older o lt)) ∙ lasting))
      by (inr le) = g k o le below lasting

  pub gives-none : {A : Type 0} (P : Type 0) (s : State) (Q : After A → Type 0) → Gives F v os P s Q None
  gives-none P s Q = record { held = λ a e. absurd cc }

  pub gives-some : {A : Type 0} (P : Type 0) (s : State) (Q : After A → Type 0) (x : After A) → Moves F v os s x.state → (Later x.state v → P → IsProperState v s → IsProperState v x.state × Q x × HasMade v s x.state)
      → Gives F v os P s Q (Some x)
  gives-some {A} P s Q x m h = record { held = λ a e. subst (λ (b : After A). Moves F v os s b.state × (Later b.state v → P → IsProperState v s → IsProperState v b.state × Q b × HasMade v s b.state)) (some-same x a e) (m, h) }

  -- in the state that there is
  pub gives-here : {A : Type 0} (P : Type 0) (s : State) (Q : After A → Type 0) (o : Option A) → ((x : A) → o ≡ Some x → Later s v → P → IsProperState v s → Q (record { value = x; state = s })) → Gives F v os P s Q (give o s)
  gives-here P s Q None h = gives-none P s Q
  gives-here P s Q (Some x) h = gives-some P s Q (record { value = x; state = s }) (same-moves s) (λ l p g. (g, h x refl l p g, none-made v s s refl))

  -- one after the other; what comes behind knows of what its state is the answer
  pub gives-behind : {A B : Type 0} (P : Type 0) (s : State) (Q : After A → Type 0) (R : After B → Type 0) (o : Option (After A)) (f : After A → Option (After B))
      → Gives F v os P s Q o → ((a : After A) → o ≡ Some a → Moves F v os s a.state → Gives F v os (P × Q a) a.state R (f a)) → Gives F v os P s R (and_then o f)
  gives-behind P s Q R None f h k = gives-none P s R
  gives-behind {A} {B} P s Q R (Some a) f h k = record { held = λ b e. next b e }
    where
      first : Moves F v os s a.state × (Later a.state v → P → IsProperState v s → IsProperState v a.state × Q a × HasMade v s a.state)
      first = h.held a refl

      next : (b : After B) → f a ≡ Some b → Moves F v os s b.state × (Later b.state v → P → IsProperState v s → IsProperState v b.state × R b × HasMade v s b.state)
      next b e =
          let second = (k a refl first.0).held b e in (
            then-moves s a.state b.state first.0 second.0,
            λ l p g. let q = first.1 (second.0.later l) p g in let r = second.1 l (p, q.1) q.0 in (r.0, r.1, then-made s a.state b.state second.0 q.2 r.2),
          )

  pub gives-then : {A B : Type 0} (P : Type 0) (s : State) (Q : After A → Type 0) (R : After B → Type 0) (o : Option (After A)) (f : After A → Option (After B))
      → Gives F v os P s Q o → ((a : After A) → Moves F v os s a.state → Gives F v os (P × Q a) a.state R (f a)) → Gives F v os P s R (and_then o f)
  gives-then P s Q R o f h k = gives-behind P s Q R o f h (λ a e m. k a m)

  -- behind something that is no state
  pub gives-value : {A B : Type 0} (P : Type 0) (s : State) (R : After B → Type 0) (o : Option A) (f : A → Option (After B)) → ((x : A) → o ≡ Some x → Gives F v os P s R (f x)) → Gives F v os P s R (and_then o f)
  gives-value P s R None f k = gives-none P s R
  gives-value P s R (Some x) f k = k x refl

  pub gives-if : {A : Type 0} (P : Type 0) (s : State) (Q : After A → Type 0) (b : Bool) (o : Option (After A)) → (b ≡ true → Gives F v os P s Q o) → Gives F v os P s Q (if b then o else None)
  gives-if P s Q true o h = h refl
  gives-if P s Q false o h = gives-none P s Q

  pub gives-unless : {A : Type 0} (P : Type 0) (s : State) (Q : After A → Type 0) (b : Bool) (o : Option (After A)) → (b ≡ false → Gives F v os P s Q o) → Gives F v os P s Q (if b then None else o)
  gives-unless P s Q true o h = gives-none P s Q
  gives-unless P s Q false o h = h refl

  -- a state that was gone to before, in which R is known
  pub gives-from : {A : Type 0} (P R : Type 0) (s t : State) (Q : After A → Type 0) (o : Option (After A)) → Moves F v os s t → (Later t v → P → IsProperState v s → IsProperState v t × R × HasMade v s t) → Gives F v os R t Q o → Gives F v os P s Q o
  gives-from {A} P R s t Q o m h k = record { held = λ a e. next a e }
    where
      next : (a : After A) → o ≡ Some a → Moves F v os s a.state × (Later a.state v → P → IsProperState v s → IsProperState v a.state × Q a × HasMade v s a.state)
      next a e =
          let r = k.held a e in
          (then-moves s t a.state m r.0, λ l p g. let z = h (r.0.later l) p g in let w = r.1 l z.1 z.0 in (w.0, w.1, then-made s t a.state r.0 z.2 w.2))

-- less is asked, more is known before
pub gives-weaker : {A : Type 0} (F G P R : Type 0) (v : WholeUnit) (os : List ℕ) (s : State) (Q T : After A → Type 0) (o : Option (After A))
    → (G → F) → (R → P) → ((a : After A) → Q a → T a) → Gives F v os P s Q o → Gives G v os R s T o
gives-weaker {A} F G P R v os s Q T o g p w h = record { held = λ a e. next a e }
  where
    next : (a : After A) → o ≡ Some a → Moves G v os s a.state × (Later a.state v → R → IsProperState v s → IsProperState v a.state × T a × HasMade v s a.state)
    next a e =
        let r = h.held a e in (
          record { later = r.0.later; outer = r.0.outer; grows = r.0.grows; names = λ x. r.0.names (g x); evaluated = r.0.evaluated; functions = r.0.functions; spelled = r.0.spelled; noted = r.0.noted; orderly = r.0.orderly; count = r.0.count; older = r.0.older },
          λ l q k. let z = r.1 l (p q) k in (z.0, w a z.1, z.2),
        )

-- ---- 6.3.2.1p2: the value of an operand

module _ (E F : Type 0) (v : WholeUnit) (os : List ℕ) (done : IsFinished v) where
  pub gives-operand : (P : Type 0) (s : State) (o : Option (After TypedTree)) → Gives F v os P s (λ a. IsExpression E v os a.value) o → Gives F v os P s (λ a. IsOperand E v os a.value) (operand o)
  gives-operand P s None h = gives-none F v os P s (λ a. IsOperand E v os a.value)
  gives-operand P s (Some a) h = record { held = λ b e. next b e }
    where
      first : Moves F v os s a.state × (Later a.state v → P → IsProperState v s → IsProperState v a.state × IsExpression E v os a.value × HasMade v s a.state)
      first = h.held a refl

      given : Gives F v os (P × IsExpression E v os a.value) a.state (λ b. IsOperand E v os b.value) (give (value_of (env a.state) a.value) a.state)
      given = gives-here F v os (P × IsExpression E v os a.value) a.state (λ b. IsOperand E v os b.value) (value_of (env a.state) a.value)
          (λ x e l p g. value-row E v os done (env a.state) l.unit.layouts a.value p.1 x e)

      next : (b : After TypedTree) → give (value_of (env a.state) a.value) a.state ≡ Some b → Moves F v os s b.state × (Later b.state v → P → IsProperState v s → IsProperState v b.state × IsOperand E v os b.value × HasMade v s b.state)
      next b e =
          let second = given.held b e in (
            then-moves F v os s a.state b.state first.0 second.0,
            λ l p g. let q = first.1 (second.0.later l) p g in let r = second.1 l (p, q.1) q.0 in (r.0, r.1, then-made F v os s a.state b.state second.0 q.2 r.2),
          )

  pub gives-integer : (P : Type 0) (s : State) (Q : After TypedTree → Type 0) (o : Option (After TypedTree)) → Gives F v os P s Q o → Gives F v os P s (λ a. Unit {0}) (integer_value o)
  gives-integer P s Q None h = gives-none F v os P s (λ a. Unit {0})
  gives-integer P s Q (Some a) h = record { held = λ b e. next b e }
    where
      first : Moves F v os s a.state × (Later a.state v → P → IsProperState v s → IsProperState v a.state × Q a × HasMade v s a.state)
      first = h.held a refl

      next : (b : After _) → give (integer a.value) a.state ≡ Some b → Moves F v os s b.state × (Later b.state v → P → IsProperState v s → IsProperState v b.state × Unit {0} × HasMade v s b.state)
      next b e =
          let second = (gives-here F v os P a.state (λ b. Unit {0}) (integer a.value) (λ x e l p g. tt)).held b e in (
            then-moves F v os s a.state b.state first.0 second.0,
            λ l p g. let q = first.1 (second.0.later l) p g in let r = second.1 l p q.0 in (r.0, r.1, then-made F v os s a.state b.state second.0 q.2 r.2),
          )

-- ---- 6.7.6.3, 6.2.1p4: a list of parameters in a scope of its own, which ends with it

pub take-all : {A : Type 0} (xs ys : List A) → take (length xs) (xs ++ ys) ≡ xs
take-all [] ys = refl
take-all (x ∷ xs) ys = ap (λ zs. x ∷ zs) (take-all xs ys)

pub each-take : {A : Type 0} (P : A → Type 0) (n : ℕ) (xs : List A) → Each P xs → Each P (take n xs)
each-take P zero xs h = tt
each-take P (suc n) [] h = tt
each-take P (suc n) (x ∷ xs) h = (h.0, each-take P n xs h.1)

pub entered-orderly : (s : State) → Orderly s → Orderly (in_new_scope s)
entered-orderly s h = record {
  names = each_append (AreKnownNames (length s.unit.functions)) s.scopes (no_scope ∷ []) h.names (tt, tt);
  uses = h.uses;
  sources = h.sources;
  written = h.written;
  ended = h.ended;
  laid = h.laid;
  apart = h.apart;
}

pub left-orderly : (t : State) → Orderly t → Orderly (behind_scope t)
left-orderly t h = record { names = each-take (AreKnownNames (length t.unit.functions)) (length t.scopes - 1) t.scopes h.names; uses = h.uses; sources = h.sources; written = h.written; ended = h.ended; laid = h.laid; apart = h.apart }

-- behind it the scopes are those of before
pub left-scopes : (ss ts : List Scope) → Outer (ss ++ (no_scope ∷ [])) ts → take (length ts - 1) ts ≡ ss
left-scopes ss ts h =
    let l = length-append ss (no_scope ∷ []) in
    let inner : length (ss ++ (no_scope ∷ [])) - 1 ≡ length ss = omega (arith, l) in
    let outer : length ts - 1 ≡ length ss = ap (λ n. n - 1) h.deep ∙ inner in
    ap (λ n. take n ts) outer ∙ subst (λ n. take n ts ≡ take n (ss ++ (no_scope ∷ []))) inner h.same ∙ take-all ss (no_scope ∷ [])

pub left-moves : (F G : Type 0) (v : WholeUnit) (os : List ℕ) (s t : State) → Moves F v os (in_new_scope s) t → Moves G v os s (behind_scope t)
left-moves F G v os s t m =
    let same = left-scopes s.scopes t.scopes m.outer in
    record {
      later = λ l. let k = m.later (record { unit = l.unit; used = l.used }) in record { unit = k.unit; used = k.used };
      outer = subst (λ ts. Outer s.scopes ts) (sym same) (same-outer s.scopes);
      grows = m.grows;
      names = λ f w ps h. subst (AreVisible w ps) (sym same) h;
      evaluated = m.evaluated;
      functions = m.functions;
      spelled = m.spelled;
      noted = m.noted;
      orderly = λ h. left-orderly t (m.orderly (entered-orderly s h));
      count = m.count;
      older = m.older;
    }

pub left-proper : (v : WholeUnit) (s t : State) → 0 < length s.scopes → Outer (in_new_scope s).scopes t.scopes → IsProperState v t → IsProperState v (behind_scope t)
left-proper v s t some outer h =
    let same = left-scopes s.scopes t.scopes outer in
    record {
      unit = h.unit;
      some = subst (λ (ts : List Scope). 0 < length ts) (sym same) some;
      scopes = each-take (IsScope v (length t.unit.functions)) (length t.scopes - 1) t.scopes h.scopes;
    }
