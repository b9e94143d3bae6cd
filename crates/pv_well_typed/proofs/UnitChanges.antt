-- Each way in which the typing of declarations changes the state (C17 6.2.7p4, 6.7, 6.9): a unit that is later than the state behind is later
-- than the one before, and the types stay as declarations make them.
use Rattle.std.proofs.Common.{◌≡◌, ℕ, zero, suc, ◌<◌, ◌≤◌, ◌==◌, Bool, true, false, Some, None, List, [], ◌∷◌, ◌++◌, length, set, get_or, refl, sym, ap, subst, ◌∙◌, arith, length-set}
use Rattle.std.proofs.lemmas.Bool.{eqb-true, eq-eqb}
use Rattle.std.specs.Prelude.{if◌then◌else◌}
use Rattle.pv_types.specs.Layouts.{Entry, up_to, layout_in, is_complete_in}
use Rattle.pv_unit.specs.Parts.{with_size}
use Rattle.pv_typed.specs.Addresses.{size_in}
use Rattle.pv_typed.specs.AddressParts.{or_zero}
use Rattle.pv_well_typed.proofs.PrimaryRows.{each-at}
use Rattle.pv_well_typed.proofs.Moving.{IsApart, Orderly, Grown}
use Rattle.pv_types.specs.Ty.{Ty, Tys, NoTys, MoreTys, VoidTy, IntTy, PointerTo, ArrayOf, StructTag, UnionTag, FunctionTy, ConstOf}
use Rattle.pv_typed.specs.TypedUnits.{WholeUnit, TypedObject, TypedFunction, object_at, function_at, name_at}
use Rattle.pv_typed.specs.UnitParts.{no_object, no_function}
use Rattle.pv_library.specs.LibraryNames.{library_named}
use Rattle.pv_check.specs.Composite.{composite_of, composites}
use Rattle.pv_check.specs.State.{State, ObjectName}
use Rattle.pv_unit.specs.Redeclarations.{with_function, with_function_type, unit_name, new_object, new_function}
use Rattle.pv_unit.specs.Initializers.{Given}
use Rattle.pv_unit.specs.ValueRules.{with_given}
use Rattle.pv_guards.specs.Typed.{AreLike, AreAllLike, IsSignature}
use Rattle.pv_well_typed.specs.Proper.{IsProper}
use Rattle.pv_well_typed.specs.Later.{Stays, Later}
use Rattle.pv_well_typed.specs.ProperStates.{IsProperState}
use Rattle.pv_well_typed.proofs.Changes.{before-at, below-append, each-set, more_object, object-later, object-proper, bind-proper}

-- a unit with another object of this number (6.2.7p4)
abbrev pub with_object : ℕ → TypedObject → State → State
with_object o x s = record s { unit = record s.unit { objects = set s.unit.objects o x } }

-- ---- an element of a list in the place of another one

pub set-same : {A : Type 0} (z : A) (xs : List A) (i : ℕ) (y : A) → i < length xs → get_or (set xs i y) i z ≡ y
set-same z [] i y lt = absurd (omega (arith, lt))
set-same z (x ∷ xs) zero y lt = refl
set-same z (x ∷ xs) (suc i) y lt = set-same z xs i y (omega (arith, lt))

pub set-other : {A : Type 0} (z : A) (xs : List A) (i j : ℕ) (y : A) → (i ≡ j → ⊥) → get_or (set xs i y) j z ≡ get_or xs j z
set-other z [] i j y apart = refl
set-other z (x ∷ xs) zero zero y apart = absurd (apart refl)
set-other z (x ∷ xs) zero (suc j) y apart = refl
set-other z (x ∷ xs) (suc i) zero y apart = refl
set-other z (x ∷ xs) (suc i) (suc j) y apart = set-other z xs i j y (λ e. apart (ap suc e))

pub differ : (i j : ℕ) → (i == j) ≡ false → i ≡ j → ⊥
differ i j e q = let both : true ≡ false = sym (eq-eqb i j q) ∙ e in absurd cc

-- ---- 6.4.2.1p1: another object of the same name in the place of one

pub with-object-orderly : (o : ℕ) (x : TypedObject) (s : State) → x.name ≡ (object_at s.unit o).name → Orderly s → Orderly (with_object o x s)
with-object-orderly o x s same h =
    let old : IsApart (object_at s.unit o) = each-at IsApart no_object s.unit.objects o (λ e. absurd cc) h.apart in
    record {
      names = h.names;
      uses = h.uses;
      sources = h.sources;
      written = h.written;
      ended = h.ended;
      laid = h.laid;
      apart = each-set IsApart s.unit.objects o x h.apart (λ e. old (sym same ∙ e));
    }

-- 6.7.9: an object with what its initializer gives it
pub given-orderly : (o : ℕ) (x : Given) (s : State) → Orderly s → Orderly (with_given o x s)
given-orderly o x s h = with-object-orderly o (record (object_at s.unit o) { t = x.t; braced = x.braced; inits = (object_at s.unit o).inits ++ x.stores }) s refl h

-- ---- 6.2.7p3: a composite type has the same values as either of the two

pub composite-like : (t u : Ty) → AreLike (composite_of t u) t
composite-like (PointerTo t) (PointerTo u) = λ env w. ((λ h. h), (λ h. h))
composite-like (ArrayOf t m) (ArrayOf u n) = λ env w. ((λ h. absurd h), (λ h. absurd h))
composite-like (FunctionTy t ts c) (FunctionTy u us d) = λ env w. ((λ h. absurd h), (λ h. absurd h))
composite-like (ConstOf t) (ConstOf u) = composite-like t u
composite-like _ _ = λ env w. ((λ h. h), (λ h. h))

pub like-then : (t u w : Ty) → AreLike t u → AreLike u w → AreLike t w
like-then t u w h g env x = ((λ k. (g env x).0 ((h env x).0 k)), (λ k. (h env x).1 ((g env x).1 k)))

pub like-back : (t u : Ty) → AreLike t u → AreLike u t
like-back t u h env x = ((h env x).1, (h env x).0)

pub composites-like : (ts us ws : Tys) → AreAllLike (composites ts us) ws → AreAllLike ts ws
composites-like (MoreTys t ts) (MoreTys u us) (MoreTys w ws) h = (like-then t (composite_of t u) w (like-back (composite_of t u) t (composite-like t u)) h.0, composites-like ts us ws h.1)
composites-like (MoreTys t ts) (MoreTys u us) NoTys h = absurd h
composites-like (MoreTys t ts) NoTys ws h = h
composites-like NoTys us ws h = h

-- what has the signature of the composite type has that of the older one
composite-signed : (w r s : Ty) (ts us : Tys) → IsSignature w (composite_of r s) (composites ts us) → IsSignature w r ts
composite-signed (FunctionTy x xs false) r s ts us h = (like-then x (composite_of r s) r h.0 (composite-like r s), composites-like ts us xs h.1)
composite-signed (FunctionTy x xs true) r s ts us h = absurd h
composite-signed VoidTy r s ts us h = absurd h
composite-signed (IntTy k) r s ts us h = absurd h
composite-signed (PointerTo t) r s ts us h = absurd h
composite-signed (ArrayOf t n) r s ts us h = absurd h
composite-signed (StructTag n) r s ts us h = absurd h
composite-signed (UnionTag n) r s ts us h = absurd h
composite-signed (ConstOf t) r s ts us h = absurd h

-- 6.2.7p4: what has each signature that the newer type has, has each that the older one has
abbrev pub Signs : (old new : Ty) → Type 0
Signs t u = (w : Ty) → ((r : Ty) (ts : Tys) → u ≡ FunctionTy r ts false → IsSignature w r ts) → (r : Ty) (ts : Tys) → t ≡ FunctionTy r ts false → IsSignature w r ts

pub same-signs : (t : Ty) → Signs t t
same-signs t w h r ts e = h r ts e

-- 6.7.9p22: an array of unknown size gets one, and what is complete stays as it is
pub size-sized : (es : List Entry) (t : Ty) (n : ℕ)
    → or_zero (if is_complete_in es t then up_to (layout_in es t).size else None) ≤ or_zero (if is_complete_in es (with_size t n) then up_to (layout_in es (with_size t n)).size else None)
size-sized es (ArrayOf t None) n = omega arith
size-sized es (ArrayOf t (Some m)) n = omega arith
size-sized es VoidTy n = omega arith
size-sized es (IntTy k) n = omega arith
size-sized es (PointerTo t) n = omega arith
size-sized es (StructTag k) n = omega arith
size-sized es (UnionTag k) n = omega arith
size-sized es (FunctionTy t ts c) n = omega arith
size-sized es (ConstOf t) n = omega arith

module _ (v : WholeUnit) where
  -- ---- objects

  -- 6.2.7p4: with another object of the same number, which is no smaller
  pub grown-set : (o : ℕ) (x : TypedObject) (s : State) → or_zero (size_in s.unit (object_at s.unit o).t) ≤ or_zero (size_in s.unit x.t) → Grown v (with_object o x s) → Grown v s
  grown-set o x s le k i lt = by (o == i) refl
    where
      wide : or_zero (size_in s.unit (object_at (with_object o x s).unit i).t) ≤ or_zero (size_in v (object_at v i).t)
      wide = let n = length-set s.unit.objects o x in k i (omega (arith, n, lt))

      by : (b : Bool) → (o == i) ≡ b → or_zero (size_in s.unit (object_at s.unit i).t) ≤ or_zero (size_in v (object_at v i).t)
      by true e =
          let q : o ≡ i = eqb-true o i e in
          let at : object_at (with_object o x s).unit i ≡ x = subst (λ j. get_or (set s.unit.objects j x) i no_object ≡ x) (sym q) (set-same no_object s.unit.objects i x lt) in
          let more = subst (λ (y : TypedObject). or_zero (size_in s.unit y.t) ≤ or_zero (size_in v (object_at v i).t)) at wide in
          let less = subst (λ j. or_zero (size_in s.unit (object_at s.unit j).t) ≤ or_zero (size_in s.unit x.t)) q le in
          omega (arith, more, less)
      by false e = subst (λ (y : TypedObject). or_zero (size_in s.unit y.t) ≤ or_zero (size_in v (object_at v i).t)) (set-other no_object s.unit.objects o i x (differ o i e)) wide

  set-lasting : (o : ℕ) (x : TypedObject) (xs : List TypedObject) → x.lasting ≡ (get_or xs o no_object).lasting → (i : ℕ) → i < length xs → (get_or (set xs o x) i no_object).lasting ≡ (get_or xs i no_object).lasting
  set-lasting o x xs same i lt = by (o == i) refl
    where
      by : (b : Bool) → (o == i) ≡ b → (get_or (set xs o x) i no_object).lasting ≡ (get_or xs i no_object).lasting
      by true e =
          let q : o ≡ i = eqb-true o i e in
          let at : get_or (set xs o x) i no_object ≡ x = subst (λ k. get_or (set xs k x) i no_object ≡ x) (sym q) (set-same no_object xs i x lt) in
          ap (λ (y : TypedObject). y.lasting) at ∙ same ∙ ap (λ k. (get_or xs k no_object).lasting) q
      by false e = ap (λ (y : TypedObject). y.lasting) (set-other no_object xs o i x (differ o i e))

  pub with-object-later : (o : ℕ) (x : TypedObject) (s : State) → x.lasting ≡ (object_at s.unit o).lasting → Later (with_object o x s) v → Later s v
  with-object-later o x s same l = record {
    unit = record {
      layouts = l.unit.layouts;
      headings = l.unit.headings;
      functions = λ f lt. let g = l.unit.functions f lt in record { there = g.there; named = g.named; signed = g.signed };
      literals = l.unit.literals;
      instances = l.unit.instances;
      lasting = λ i lt. let n = length-set s.unit.objects o x in l.unit.lasting i (omega (arith, n, lt)) ∙ set-lasting o x s.unit.objects same i lt;
    };
    used = l.used;
  }

  pub with-object-proper : (o : ℕ) (x : TypedObject) (s : State) → IsProper v x.t → IsProperState v s → IsProperState v (with_object o x s)
  with-object-proper o x s p h = record {
    unit = record {
      objects = each-set (λ (y : TypedObject). IsProper v y.t) s.unit.objects o x h.unit.objects p;
      functions = h.unit.functions;
      completed = h.unit.completed;
    };
    some = h.some;
    scopes = h.scopes;
  }

  -- 6.7.9: an object with what its initializer gives it
  pub given-later : (o : ℕ) (x : Given) (s : State) → Later (with_given o x s) v → Later s v
  given-later o x s l = with-object-later o (record (object_at s.unit o) { t = x.t; braced = x.braced; inits = (object_at s.unit o).inits ++ x.stores }) s refl l

  pub given-proper : (o : ℕ) (x : Given) (s : State) → IsProper v x.t → IsProperState v s → IsProperState v (with_given o x s)
  given-proper o x s p h = with-object-proper o (record (object_at s.unit o) { t = x.t; braced = x.braced; inits = (object_at s.unit o).inits ++ x.stores }) s p h

  -- 6.2.1p7: a new object, whose name stands from here on
  pub new-object-later : (n line : ℕ) (t : Ty) (lasting : Bool) (s : State) → Later (new_object n line t lasting s) v → Later s v
  new-object-later n line t lasting s l =
      object-later v (record { name = unit_name n; t = t; line = line; lasting = lasting; braced = false; inits = [] }) s (record { unit = l.unit; used = l.used })

  pub new-object-proper : (n line : ℕ) (t : Ty) (lasting : Bool) (s : State) → IsProper v t → IsProperState v s → IsProperState v (new_object n line t lasting s)
  new-object-proper n line t lasting s p h =
      bind-proper v n (ObjectName (length s.unit.objects)) (more_object (record { name = unit_name n; t = t; line = line; lasting = lasting; braced = false; inits = [] }) s) tt
      (object-proper v (record { name = unit_name n; t = t; line = line; lasting = lasting; braced = false; inits = [] }) s p h)

  -- ---- functions

  stays-back : (u : WholeUnit) (fs : List TypedFunction) (g : ℕ) → (get_or fs g no_function).name ≡ (function_at u g).name → Signs (function_at u g).t (get_or fs g no_function).t
      → Stays (record u { functions = fs }) v g → Stays u v g
  stays-back u fs g named signs k = record {
    there = k.there;
    named = k.named ∙ ap (λ n. library_named (name_at u n)) named;
    signed = λ r ts z. signs (function_at v g).t k.signed r ts z;
  }

  changed-stays : (f : ℕ) (x : TypedFunction) (u : WholeUnit) → x.name ≡ (function_at u f).name → Signs (function_at u f).t x.t
      → (g : ℕ) → g < length u.functions → Stays (record u { functions = set u.functions f x }) v g → Stays u v g
  changed-stays f x u named signs g lt k = by (f == g) refl
    where
      by : (b : Bool) → (f == g) ≡ b → Stays u v g
      by true e =
          let q : f ≡ g = eqb-true f g e in
          let at : get_or (set u.functions f x) g no_function ≡ x = subst (λ i. get_or (set u.functions i x) g no_function ≡ x) (sym q) (set-same no_function u.functions g x lt) in
          stays-back u (set u.functions f x) g (ap (λ (y : TypedFunction). y.name) at ∙ named ∙ ap (λ i. (function_at u i).name) q)
          (subst (λ i. Signs (function_at u i).t (get_or (set u.functions f x) g no_function).t) q (subst (λ (y : TypedFunction). Signs (function_at u f).t y.t) (sym at) signs)) k
      by false e =
          let at : get_or (set u.functions f x) g no_function ≡ function_at u g = set-other no_function u.functions f g x (differ f g e) in
          stays-back u (set u.functions f x) g (ap (λ (y : TypedFunction). y.name) at) (subst (λ (y : TypedFunction). Signs (function_at u g).t y.t) (sym at) (same-signs (function_at u g).t)) k

  pub with-function-later : (f : ℕ) (x : TypedFunction) (s : State) → x.name ≡ (function_at s.unit f).name → Signs (function_at s.unit f).t x.t → Later (with_function f x s) v → Later s v
  with-function-later f x s named signs l = record {
    unit = record {
      layouts = l.unit.layouts;
      headings = l.unit.headings;
      functions = λ g lt. let n = length-set s.unit.functions f x in changed-stays f x s.unit named signs g lt (l.unit.functions g (omega (arith, n, lt)));
      literals = l.unit.literals;
      instances = l.unit.instances;
      lasting = l.unit.lasting;
    };
    used = l.used;
  }

  -- 6.2.7p4: with the composite type
  function-parts : (r q : Ty) (ts qs : Tys) (c : Bool) → FunctionTy r ts c ≡ FunctionTy q qs false → (r ≡ q) × (ts ≡ qs) × (c ≡ false)
  function-parts r q ts qs c e = (cc, cc, cc)

  pub composite-signs : (t u : Ty) → Signs t (composite_of t u)
  composite-signs (FunctionTy r ts c) (FunctionTy s us d) w h q qs e =
      let p = function-parts r q ts qs c e in
      let k = composite-signed w r s ts us (h (composite_of r s) (composites ts us) (ap (FunctionTy (composite_of r s) (composites ts us)) p.2)) in
      subst (λ z. IsSignature w z qs) p.0 (subst (λ z. IsSignature w r z) p.1 k)
  composite-signs (PointerTo t) (PointerTo u) w h q qs e = absurd cc
  composite-signs (ArrayOf t m) (ArrayOf u n) w h q qs e = absurd cc
  composite-signs (ConstOf t) (ConstOf u) w h q qs e = absurd cc
  composite-signs _ _ w h q qs e = h q qs e

  pub function-type-later : (f : ℕ) (t : Ty) (s : State) → Later (with_function_type f (composite_of (function_at s.unit f).t t) s) v → Later s v
  function-type-later f t s l =
      with-function-later f (record (function_at s.unit f) { t = composite_of (function_at s.unit f).t t }) s refl (composite-signs (function_at s.unit f).t t) l

  -- 6.2.1p7: a new function
  pub new-function-later : (n line : ℕ) (t : Ty) (s : State) → Later (new_function n line t s) v → Later s v
  new-function-later n line t s l = record {
    unit = record {
      layouts = l.unit.layouts;
      headings = l.unit.headings;
      functions = λ f lt. stays f lt (l.unit.functions f (below-append s.unit.functions (record { name = unit_name n; t = t; line = line; params = []; body = None } ∷ []) f lt));
      literals = l.unit.literals;
      instances = l.unit.instances;
      lasting = l.unit.lasting;
    };
    used = l.used;
  }
    where
      stays : (f : ℕ) → f < length s.unit.functions → Stays (record s.unit { functions = s.unit.functions ++ (record { name = unit_name n; t = t; line = line; params = []; body = None } ∷ []) }) v f → Stays s.unit v f
      stays f lt k =
          let at = before-at no_function s.unit.functions (record { name = unit_name n; t = t; line = line; params = []; body = None } ∷ []) f lt in
          stays-back s.unit (s.unit.functions ++ (record { name = unit_name n; t = t; line = line; params = []; body = None } ∷ [])) f (ap (λ (y : TypedFunction). y.name) at)
          (subst (λ (y : TypedFunction). Signs (function_at s.unit f).t y.t) (sym at) (same-signs (function_at s.unit f).t)) k
