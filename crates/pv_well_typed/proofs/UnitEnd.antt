-- Translation units (C17 6.9): each step of typing one, and what the unit at its end has of all that was typed (6.9p5, 6.9.2).
use Rattle.std.proofs.Common.{◌≡◌, ◌≢◌, ℕ, zero, suc, ◌<◌, ◌≤◌, ◌+◌, ◌==◌, Bool, true, false, not, ◌&&◌, ◌||◌, Option, Some, None, is_some, List, [], ◌∷◌, ◌++◌, length, take, get_or, option_map, refl, sym, ap, subst, ◌∙◌, arith, append-nil, ◌⊎◌, inl, inr}
use Rattle.std.proofs.lemmas.Bool.Decides.{nat_tests}
use Rattle.std.proofs.lemmas.Bool.{eqb-true, eq-eqb}
use Rattle.std.specs.Prelude.{if◌then◌else◌, nat_lt, nat_eq}
use Rattle.std.specs.Cmp.Lexicographic.{pointwise}
use Rattle.std.specs.Bool.{beq}
use Rattle.pv_types.specs.Sorts.{bare_type}
use Rattle.pv_num.specs.declared.kinds.IntKind.TheVariants.{Int}
use Rattle.pv_token.specs.Table.{Table}
use Rattle.pv_tree.specs.Syntax.{DeclarationTree, Function as FunctionTree, Declaration, InitDeclarator, MemberDeclaration, Enumerator, Parameter, TypeName}
use Rattle.pv_types.specs.Layouts.{is_complete_in}
use Rattle.pv_types.specs.Ty.{Ty, Tys, NoTys, MoreTys, VoidTy, IntTy, PointerTo, ArrayOf, StructTag, UnionTag, FunctionTy, ConstOf}
use Rattle.pv_typed.specs.Known.{Each}
use Rattle.pv_typed.specs.Mains.{main_text, literal_text, heap_text, named_main, first_main, main_of}
use Rattle.pv_guards.proofs.Mains.{main-has-name}
use Rattle.pv_typed.proofs.Each.{each_weaker}
use Rattle.pv_typed.specs.TypedUnits.{WholeUnit, TypedObject, TypedFunction, layouts, object_at, function_at, name_at}
use Rattle.pv_typed.specs.UnitParts.{no_object, no_function, no_literal}
use Rattle.pv_library.specs.LibraryNames.{library_named}
use Rattle.pv_check.specs.State.{State, Used, UsedObject, UsedFunction, PointedFunction, env}
use Rattle.pv_typed.specs.Constants.{and_then}
use Rattle.pv_unit.specs.Definitions.{entity_type, is_finished, may_end, is_defined}
use Rattle.pv_unit.specs.HeadParts.{are_finished}
use Rattle.pv_unit.specs.Redeclarations.{Entity, UnitState, unit_name, is_entity}
use Rattle.pv_unit.specs.Functions.{typed_declaration, typed_external}
use Rattle.pv_unit.specs.FunctionParts.{counted_state, with_one_external}
use Rattle.pv_unit.specs.Units.{typed_first, typed_last, typed_to, uses, is_unresolved, first_unresolved, has_main, statics_from, unit_at_first, points, placed_from, finished_unit, Typed, IsTyped, UnitComes}
use Rattle.pv_unit.specs.UnitParts.{is_used, is_of_library, is_main_function, has_main_in, is_pointed}
use Rattle.pv_unit.proofs.NamedUnits.{unit_names}
use Rattle.pv_eval.specs.Objects.{heap_name}
use Rattle.pv_guards.specs.Typed.{AreAllLike, AreFixed, IsSignature, IsIn, HasBody}
use Rattle.pv_guards.specs.TypedStatements.{IsMakeable, IsResult, IsTypedUnit}
use Rattle.pv_well_typed.proofs.SourceCharacters.{DeclarationCharacters}
use Rattle.pv_well_typed.specs.Later.{IsFinished, IsThere, Later, library_of}
use Rattle.pv_well_typed.specs.Proper.{IsValueOrVoid, IsProper}
use Rattle.pv_well_typed.specs.ProperStates.{IsLibraryType, IsFixed, HasFunctionType}
use Rattle.pv_well_typed.proofs.Types.{small}
use Rattle.pv_well_typed.proofs.Operands.{some-same}
use Rattle.pv_well_typed.proofs.UnaryRows.{both-true}
use Rattle.pv_well_typed.proofs.PrimaryRows.{each-at, beyond-at}
use Rattle.pv_well_typed.proofs.TagRows.{bits-equal}
use Rattle.pv_well_typed.proofs.Moving.{AreTexts, IsWritten, IsKnownUse, IsApart, identifier-apart, Grown}
use Rattle.pv_well_typed.proofs.DeclaredTypes.{from-some}
use Rattle.pv_well_typed.proofs.Laid.{laid-none}
use Rattle.pv_well_typed.proofs.Walk.{U}
use Rattle.pv_well_typed.proofs.StatementWalk.{count}
use Rattle.pv_well_typed.proofs.FileScope.{HasEntity, IsEntityOf, IsUnit, UnitIs, Goes, then-goes, same-goes}
use Rattle.pv_well_typed.proofs.FunctionTypes.{pointwise-same}
use Rattle.pv_well_typed.proofs.FileDeclarations.{declaration-goes}
use Rattle.pv_well_typed.proofs.FileDefinitions.{definition-goes}

-- ---- external declarations (6.9p1)

module _ (v : WholeUnit) (done : IsFinished v) (apart : (o : ℕ) → (object_at v o).name ≢ heap_name) (fixed : AreFixed v) where
  -- the count that `check` prints
  counted-goes : (u : UnitState) → IsUnit v None u → Goes U v None u (record u { state = counted_state u.state })
  counted-goes u i = record {
    later = λ l. record {
      unit = record {
        layouts = l.unit.layouts;
        headings = l.unit.headings;
        functions = λ f lt. let g = l.unit.functions f lt in record { there = g.there; named = g.named; signed = g.signed };
        literals = l.unit.literals;
        instances = l.unit.instances;
        lasting = l.unit.lasting;
      };
      used = l.used;
    };
    grown = λ g. g;
    stays = λ g. g;
    count = omega arith;
    functions = omega arith;
    unit = record {
      file = i.file;
      evaluated = i.evaluated;
      unnoted = i.unnoted;
      orderly = i.orderly;
      names = i.names;
      entities = each_weaker (IsEntityOf None u.state.unit) (IsEntityOf None (counted_state u.state).unit) (λ (e : Entity) q. record { object = q.object; function = q.function; defined = q.defined }) u.entities i.entities;
      functions = λ f lt. let z = i.functions f lt in record { declared = z.declared; shape = z.shape; fixed = z.fixed; unset = z.unset; fresh = z.fresh; main = z.main };
      found = i.found;
    };
    is = λ b l s. record {
      proper = record { unit = record { objects = s.proper.unit.objects; functions = s.proper.unit.functions; completed = s.proper.unit.completed }; some = s.proper.some; scopes = s.proper.scopes };
      objects = λ g o lt. let z = s.objects g o lt in record { constants = z.constants; complete = z.complete };
      functions = λ g f lt. s.functions g f lt;
    };
  }

  declaration-step : (d : DeclarationTree) (u w : UnitState) → DeclarationCharacters d → IsUnit v None u → typed_declaration d u ≡ Some w → Goes U v None u w
  declaration-step (FunctionTree line specs d b) u w c i e = definition-goes v done apart fixed specs d b u w c i e
  declaration-step (Declaration line specs ds) u w c i e = declaration-goes v done fixed None (Declaration line specs ds) u w c i e
  declaration-step (InitDeclarator line d o) u w c i e = declaration-goes v done fixed None (InitDeclarator line d o) u w c i e
  declaration-step (MemberDeclaration line specs ds) u w c i e = declaration-goes v done fixed None (MemberDeclaration line specs ds) u w c i e
  declaration-step (Enumerator line n x) u w c i e = declaration-goes v done fixed None (Enumerator line n x) u w c i e
  declaration-step (Parameter line specs d) u w c i e = declaration-goes v done fixed None (Parameter line specs d) u w c i e
  declaration-step (TypeName line specs d) u w c i e = declaration-goes v done fixed None (TypeName line specs d) u w c i e

  external-goes : (d : DeclarationTree) (u w : UnitState) → DeclarationCharacters d → IsUnit v None u → typed_external d u ≡ Some w → Goes U v None u w
  external-goes d u w c i e =
      let a = from-some (typed_declaration d u) with_one_external w e in
      let g = declaration-step d u a.0 c i a.1 in
      subst (Goes U v None u) (some-same (record a.0 { state = counted_state a.0.state }) w a.2) (then-goes U v None u a.0 (record a.0 { state = counted_state a.0.state }) g (counted-goes a.0 g.unit))

  first-goes : (ds : List DeclarationTree) (u w : UnitState) → Each DeclarationCharacters ds → IsUnit v None u → typed_first ds u ≡ Some w → Goes U v None u w
  first-goes [] u w c i e = subst (Goes U v None u) (some-same u w e) (same-goes U v None u i)
  first-goes (d ∷ ds) u w c i e =
      let a = from-some (typed_external d u) (typed_first ds) w e in
      let g = external-goes d u a.0 c.0 i a.1 in
      then-goes U v None u a.0 w g (first-goes ds a.0 w c.1 g.unit a.2)

-- all of a unit's declarations, and what its end asks
not-less : (n : ℕ) → nat_lt n n ≡ false
not-less n = grind (arith, nat_tests)

typed-whole : (ds : List DeclarationTree) (u w : UnitState) → IsTyped ds u w → (typed_first ds u ≡ Some w) × ((ds ≡ []) ⊎ (may_end w ≡ true))
unfolding typed_to
typed-whole ds u w e =
    let last = subst (λ b. (if b then typed_first (take (length ds) ds) u else and_then (typed_first ds u) (typed_last ds)) ≡ Some w) (not-less (length ds)) e in
    let a = from-some (typed_first ds u) (typed_last ds) w last in
    by ds a.0 a.1 a.2
  where
    by : (es : List DeclarationTree) (a : UnitState) → typed_first es u ≡ Some a → typed_last es a ≡ Some w → (typed_first es u ≡ Some w) × ((es ≡ []) ⊎ (may_end w ≡ true))
    by [] a f q = (f ∙ q, inl refl)
    by (d ∷ es) a f q = on (may_end a) refl q
      where
        on : (b : Bool) → may_end a ≡ b → (if b then Some a else None) ≡ Some w → (typed_first (d ∷ es) u ≡ Some w) × ((d ∷ es ≡ []) ⊎ (may_end w ≡ true))
        on true m q = (f ∙ q, inr (subst (λ z. may_end z ≡ true) (some-same a w q) m))
        on false m q = absurd cc

-- ---- before the first declaration

first-unit : (v : WholeUnit) (t : Table) → AreTexts t.texts → IsUnit v None (unit_at_first t)
first-unit v t h = record {
  file = refl;
  evaluated = refl;
  unnoted = (refl, refl);
  orderly = record { names = (tt, tt); uses = tt; sources = h; written = tt; ended = tt; laid = laid-none; apart = tt };
  names = (tt, tt);
  entities = tt;
  functions = λ f lt. absurd (omega (arith, lt));
  found = record { found = λ f lt. absurd (omega (arith, lt)); apart = λ f g lt few q. absurd (omega (arith, lt)) };
}

first-is : (v : WholeUnit) (t : Table) → UnitIs v (unit_at_first t)
first-is v t = record {
  proper = record { unit = record { objects = tt; functions = λ f lt. absurd (omega (arith, lt)); completed = tt }; some = omega arith; scopes = (((tt, tt)), tt) };
  objects = λ g o lt. absurd (omega (arith, lt));
  functions = λ g f lt. absurd (omega (arith, lt));
}

-- ---- names that are defined (6.9p5)

-- no expression names what isn't defined
each-resolved : (s : State) (es : List Entity) → first_unresolved s es ≡ None → Each (λ e. is_unresolved s e ≡ false) es
each-resolved s [] e = tt
each-resolved s (x ∷ es) e = by (each-resolved s es) (is_unresolved s x) refl e
  where
    by : (first_unresolved s es ≡ None → Each (λ e. is_unresolved s e ≡ false) es) → (b : Bool) → is_unresolved s x ≡ b → (if b then Some x.name else first_unresolved s es) ≡ None → Each (λ e. is_unresolved s e ≡ false) (x ∷ es)
    by rest true q e = absurd cc
    by rest false q e = (q, rest e)

either-true : (a b : Bool) → a ≡ true → (a || b) ≡ true
either-true true b e = refl
either-true false b e = absurd cc

or-true : (a b : Bool) → b ≡ true → (a || b) ≡ true
or-true true b e = refl
or-true false b e = e

-- one of them that is named is defined, or of the library
defined-or : (a b c : Bool) → (a && (not b && not c)) ≡ false → a ≡ true → c ≡ false → b ≡ true
defined-or true true c e p q = refl
defined-or true false false e p q = absurd cc
defined-or true false true e p q = absurd cc
defined-or false b c e p q = absurd cc

module _ (u : UnitState) (v : WholeUnit) (i : IsUnit v None u) (resolved : first_unresolved u.state u.entities ≡ None) where
  function-bodied : (es : List Entity) → Each (IsEntityOf None u.state.unit) es → Each (λ e. is_unresolved u.state e ≡ false) es → (f : ℕ) → HasEntity true f es → is_used true f u.state.used ≡ true → library_of u.state.unit f ≡ None
      → is_some (function_at u.state.unit f).body ≡ true
  function-bodied (e ∷ es) h r f (inl q) used none =
      let b = both-true (beq e.function true) (e.number == f) q in
      let function : e.function ≡ true = bits-equal e.function true b.0 in
      let number : e.number ≡ f = eqb-true e.number f b.1 in
      let name = (h.0.function function).1 in
      let no-library : is_some (library_named (name_at u.state.unit (unit_name e.name))) ≡ false =
      ap is_some (ap (λ n. library_named (name_at u.state.unit n)) (sym name) ∙ ap (λ j. library_named (name_at u.state.unit (function_at u.state.unit j).name)) number ∙ none) in
      let used-here : is_used e.function e.number u.state.used ≡ true = ap (λ b. is_used b e.number u.state.used) function ∙ ap (λ j. is_used true j u.state.used) number ∙ used in
      let of-library : is_of_library u.state e ≡ false = ap (λ b. b && is_some (library_named (name_at u.state.unit (unit_name e.name)))) function ∙ no-library in
      let defined = defined-or (is_used e.function e.number u.state.used) e.defined (is_of_library u.state e) r.0 used-here of-library in
      subst (λ j. is_some (function_at u.state.unit j).body ≡ true) number (by (h.0.defined function defined))
    where
      by : (None ≡ Some e.number) ⊎ (is_some (function_at u.state.unit e.number).body ≡ true) → is_some (function_at u.state.unit e.number).body ≡ true
      by (inl z) = absurd cc
      by (inr z) = z
  function-bodied (e ∷ es) h r f (inr q) used none = function-bodied es h.1 r.1 f q used none
  function-bodied [] h r f q used none = absurd q

  -- 6.9.2p1, p2: an object that is named is defined
  object-defined : (es : List Entity) → Each (λ e. is_unresolved u.state e ≡ false) es → (o : ℕ) → is_used false o u.state.used ≡ true → is_defined o es ≡ true
  object-defined [] r o used = refl
  object-defined (e ∷ es) r o used = by (object-defined es r.1 o used) (is_entity false o e) refl
    where
      by : is_defined o es ≡ true → (b : Bool) → is_entity false o e ≡ b → (if b then e.defined else is_defined o es) ≡ true
      by rest true q =
          let b = both-true (beq e.function false) (e.number == o) q in
          let function : e.function ≡ false = bits-equal e.function false b.0 in
          let number : e.number ≡ o = eqb-true e.number o b.1 in
          let used-here : is_used e.function e.number u.state.used ≡ true = ap (λ b. is_used b e.number u.state.used) function ∙ ap (λ j. is_used false j u.state.used) number ∙ used in
          let of-library : is_of_library u.state e ≡ false = ap (λ b. b && is_some (library_named (name_at u.state.unit (unit_name e.name)))) function in
          defined-or (is_used e.function e.number u.state.used) e.defined (is_of_library u.state e) r.0 used-here of-library
      by rest false q = rest

-- ---- lists of the unit's end

in-front : (xs ys : List ℕ) (n : ℕ) → IsIn n xs → IsIn n (xs ++ ys)
in-front [] ys n h = absurd h
in-front (x ∷ xs) ys n (inl e) = inl e
in-front (x ∷ xs) ys n (inr h) = inr (in-front xs ys n h)

in-behind : (xs ys : List ℕ) (n : ℕ) → IsIn n ys → IsIn n (xs ++ ys)
in-behind [] ys n h = h
in-behind (x ∷ xs) ys n h = inr (in-behind xs ys n h)

-- 6.2.4p3: the objects with static storage that are defined
to-statics : (es : List Entity) (k : ℕ) (os : List TypedObject) (j : ℕ) → (get_or os j no_object).lasting ≡ true → is_defined (k + j) es ≡ true → IsIn (k + j) (statics_from es k os)
to-statics es k [] j l d = let both : false ≡ true = l in absurd cc
to-statics es k (x ∷ os) zero l d = here (k + 0) (omega arith)
  where
    here : (n : ℕ) → n ≡ k → IsIn n (if x.lasting && is_defined k es then k ∷ statics_from es (k + 1) os else statics_from es (k + 1) os)
    here n e = subst (λ b. IsIn n (if b then k ∷ statics_from es (k + 1) os else statics_from es (k + 1) os)) (sym (both-hold x.lasting (is_defined k es) l (subst (λ m. is_defined m es ≡ true) (same k) d))) (inl e)
      where
        same : (k : ℕ) → k + 0 ≡ k
        same k = omega arith

        both-hold : (a b : Bool) → a ≡ true → b ≡ true → (a && b) ≡ true
        both-hold true b p q = q
        both-hold false b p q = p
to-statics es k (x ∷ os) (suc j) l d = by (x.lasting && is_defined k es) (subst (λ n. IsIn n (statics_from es (k + 1) os)) (next k j) (to-statics es (k + 1) os j l (subst (λ n. is_defined n es ≡ true) (sym (next k j)) d)))
  where
    next : (k j : ℕ) → (k + 1) + j ≡ k + suc j
    next k j = omega arith

    by : (b : Bool) → IsIn (k + suc j) (statics_from es (k + 1) os) → IsIn (k + suc j) (if b then k ∷ statics_from es (k + 1) os else statics_from es (k + 1) os)
    by true h = inr h
    by false h = h

statics-at : (es : List Entity) (os : List TypedObject) (j : ℕ) → (get_or os j no_object).lasting ≡ true → is_defined j es ≡ true → IsIn j (statics_from es 0 os)
statics-at es os j l d = subst (λ n. IsIn n (statics_from es 0 os)) (start j) (to-statics es 0 os j l (subst (λ n. is_defined n es ≡ true) (sym (start j)) d))
  where
    start : (j : ℕ) → 0 + j ≡ j
    start j = omega arith

-- what is in the list has static storage, and is defined
record IsStaticAt (es : List Entity) (os : List TypedObject) (k o : ℕ) : Type 0 where
  place : ℕ
  is : o ≡ k + place
  there : place < length os
  lasting : (get_or os place no_object).lasting ≡ true
  defined : is_defined o es ≡ true

from-statics : (es : List Entity) (k : ℕ) (os : List TypedObject) (o : ℕ) → IsIn o (statics_from es k os) → IsStaticAt es os k o
from-statics es k [] o h = absurd h
from-statics es k (x ∷ os) o h = by (from-statics es (k + 1) os o) (x.lasting && is_defined k es) refl h
  where
    later : IsStaticAt es os (k + 1) o → IsStaticAt es (x ∷ os) k o
    later z = let p = z.is in let t = z.there in record { place = suc z.place; is = omega (arith, p); there = omega (arith, t); lasting = z.lasting; defined = z.defined }

    by : (IsIn o (statics_from es (k + 1) os) → IsStaticAt es os (k + 1) o) → (b : Bool) → (x.lasting && is_defined k es) ≡ b → IsIn o (if b then k ∷ statics_from es (k + 1) os else statics_from es (k + 1) os) → IsStaticAt es (x ∷ os) k o
    by rest true q (inl e) =
        let b = both-true x.lasting (is_defined k es) q in
        record { place = 0; is = omega (arith, e); there = omega arith; lasting = b.0; defined = subst (λ n. is_defined n es ≡ true) (sym e) b.1 }
    by rest true q (inr h) = later (rest h)
    by rest false q h = later (rest h)

-- 6.3.2.1p4: the functions that are pointed to
to-placed : (us : List Used) (k : ℕ) (fs : List TypedFunction) (j : ℕ) → is_some (get_or fs j no_function).body ≡ true → is_pointed (k + j) us ≡ true → IsIn (k + j) (placed_from us k fs)
to-placed us k [] j l d = let both : false ≡ true = l in absurd cc
to-placed us k (x ∷ fs) zero l d = here (k + 0) (omega arith)
  where
    here : (n : ℕ) → n ≡ k → IsIn n (if is_some x.body && is_pointed k us then k ∷ placed_from us (k + 1) fs else placed_from us (k + 1) fs)
    here n e = subst (λ b. IsIn n (if b then k ∷ placed_from us (k + 1) fs else placed_from us (k + 1) fs)) (sym (both-hold (is_some x.body) (is_pointed k us) l (subst (λ m. is_pointed m us ≡ true) (same k) d))) (inl e)
      where
        same : (k : ℕ) → k + 0 ≡ k
        same k = omega arith

        both-hold : (a b : Bool) → a ≡ true → b ≡ true → (a && b) ≡ true
        both-hold true b p q = q
        both-hold false b p q = p
to-placed us k (x ∷ fs) (suc j) l d = by (is_some x.body && is_pointed k us) (subst (λ n. IsIn n (placed_from us (k + 1) fs)) (next k j) (to-placed us (k + 1) fs j l (subst (λ n. is_pointed n us ≡ true) (sym (next k j)) d)))
  where
    next : (k j : ℕ) → (k + 1) + j ≡ k + suc j
    next k j = omega arith

    by : (b : Bool) → IsIn (k + suc j) (placed_from us (k + 1) fs) → IsIn (k + suc j) (if b then k ∷ placed_from us (k + 1) fs else placed_from us (k + 1) fs)
    by true h = inr h
    by false h = h

placed-at : (us : List Used) (fs : List TypedFunction) (j : ℕ) → is_some (get_or fs j no_function).body ≡ true → is_pointed j us ≡ true → IsIn j (placed_from us 0 fs)
placed-at us fs j l d = subst (λ n. IsIn n (placed_from us 0 fs)) (start j) (to-placed us 0 fs j l (subst (λ n. is_pointed n us ≡ true) (sym (start j)) d))
  where
    start : (j : ℕ) → 0 + j ≡ j
    start j = omega arith

from-placed : (us : List Used) (k : ℕ) (fs : List TypedFunction) (f : ℕ) → IsIn f (placed_from us k fs) → (j : ℕ) × (f ≡ k + j) × (is_some (get_or fs j no_function).body ≡ true)
from-placed us k [] f h = absurd h
from-placed us k (x ∷ fs) f h = by (from-placed us (k + 1) fs f) (is_some x.body && is_pointed k us) refl h
  where
    later : (j : ℕ) × (f ≡ (k + 1) + j) × (is_some (get_or fs j no_function).body ≡ true) → (j : ℕ) × (f ≡ k + j) × (is_some (get_or (x ∷ fs) j no_function).body ≡ true)
    later z = let p = z.1 in (suc z.0, omega (arith, p), z.2)

    by : (IsIn f (placed_from us (k + 1) fs) → (j : ℕ) × (f ≡ (k + 1) + j) × (is_some (get_or fs j no_function).body ≡ true)) → (b : Bool) → (is_some x.body && is_pointed k us) ≡ b
        → IsIn f (if b then k ∷ placed_from us (k + 1) fs else placed_from us (k + 1) fs) → (j : ℕ) × (f ≡ k + j) × (is_some (get_or (x ∷ fs) j no_function).body ≡ true)
    by rest true q (inl e) = (0, omega (arith, e), (both-true (is_some x.body) (is_pointed k us) q).0)
    by rest true q (inr h) = later (rest h)
    by rest false q h = later (rest h)

-- ---- the unit at its end is later than the state behind its last declaration

signed-itself : (t : Ty) (ts : Tys) → IsSignature (FunctionTy t ts false) t ts
signed-itself t ts = ((λ env w. ((λ h. h), (λ h. h))), all ts)
  where
    all : (ts : Tys) → AreAllLike ts ts
    all NoTys = tt
    all (MoreTys t ts) = ((λ env w. ((λ h. h), (λ h. h))), all ts)

module _ (u : UnitState) (w : WholeUnit) (i : IsUnit w None u) (resolved : first_unresolved u.state u.entities ≡ None) where
  abbrev end : WholeUnit
  end = finished_unit u

  all-there : (xs : List Used) → ((b : Bool) (k : ℕ) → is_used b k xs ≡ true → is_used b k u.state.used ≡ true) → ((k : ℕ) → is_pointed k xs ≡ true → is_pointed k u.state.used ≡ true) → Each (IsKnownUse u.state.unit.names u.state.unit.functions) xs
      → Each (IsThere end) xs
  all-there [] f g h = tt
  all-there (x ∷ xs) f g h = (
    one x (λ b k e. f b k (either-true (uses b k x) (is_used b k xs) e)) (λ k e. g k (either-true (points k x) (is_pointed k xs) e)) h.0,
    all-there xs (λ b k e. f b k (or-true (uses b k x) (is_used b k xs) e)) (λ k e. g k (or-true (points k x) (is_pointed k xs) e)) h.1,
  )
    where
      resolving : Each (λ e. is_unresolved u.state e ≡ false) u.entities
      resolving = each-resolved u.state u.entities resolved

      one : (x : Used) → ((b : Bool) (k : ℕ) → uses b k x ≡ true → is_used b k u.state.used ≡ true) → ((k : ℕ) → points k x ≡ true → is_pointed k u.state.used ≡ true) → IsKnownUse u.state.unit.names u.state.unit.functions x → IsThere end x
      one (UsedObject o) f g h = λ l. in-behind u.state.unit.statics (statics_from u.entities 0 u.state.unit.objects) o
          (statics-at u.entities u.state.unit.objects o l (object-defined u w i resolved u.entities resolving o (f false o (eq-eqb o o refl))))
      one (UsedFunction j) f g h = λ none. function-bodied u w i resolved u.entities i.entities resolving j (i.functions j h).declared (f true j (eq-eqb j j refl)) none
      one (PointedFunction j) f g h = in-behind u.state.unit.placed (placed_from u.state.used 0 u.state.unit.functions) j
          (placed-at u.state.used u.state.unit.functions j (function-bodied u w i resolved u.entities i.entities resolving j (i.functions j h.0).declared (f true j (eq-eqb j j refl)) h.1) (g j (eq-eqb j j refl)))

  pub end-later : Later u.state end
  end-later = record {
    unit = record {
      layouts = ([], sym (append-nil (layouts u.state.unit)));
      headings = λ n lt. refl;
      functions = λ f lt. record { there = lt; named = refl; signed = λ t ts e. subst (λ x. IsSignature x t ts) (sym e) (signed-itself t ts) };
      literals = λ l lt. refl;
      instances = λ l h. h;
      lasting = λ o lt. refl;
    };
    used = all-there u.state.used (λ b k e. e) (λ k e. e) i.orderly.uses;
  }

-- ---- the whole unit

-- 6.4.2.1p5: identifiers are different ones
abbrev pub AreApart : List (List ℕ) → Type 0
AreApart names = (i j : ℕ) → i < length names → j < length names → get_or names i [] ≡ get_or names j [] → i ≡ j

-- 5.1.2.2.1p1: an identifier that is `main` is there, since it has a letter
main-within : (names : List (List ℕ)) (i : ℕ) → get_or names i [] ≡ main_text → i < length names
main-within names i e = by (either i (length names))
  where
    either : (o n : ℕ) → (o < n) ⊎ (n ≤ o)
    either o n = grind arith

    by : (i < length names) ⊎ (length names ≤ i) → i < length names
    by (inl lt) = lt
    by (inr le) = let long : 0 ≡ 4 = ap (λ (text : List ℕ). length text) (sym (beyond-at [] names i le) ∙ e) in absurd (omega (arith, long))

in-each : (P : ℕ → Type 0) (ns : List ℕ) → Each P ns → (n : ℕ) → IsIn n ns → P n
in-each P [] h n i = absurd i
in-each P (m ∷ ns) h n (inl e) = subst P (sym e) h.0
in-each P (m ∷ ns) h n (inr i) = in-each P ns h.1 n i

-- 6.9.1p3: what a function returns
result-is : (r : Ty) → IsValueOrVoid r → IsResult r
result-is VoidTy h = inl refl
result-is (IntTy k) h = inr tt
result-is (PointerTo t) h = inr tt
result-is (StructTag n) h = inr tt
result-is (UnionTag n) h = inr tt
result-is (ArrayOf t n) h = absurd h
result-is (FunctionTy t ts c) h = absurd h
result-is (ConstOf t) h = absurd h

function-result : (v : WholeUnit) (l : Option _) (t r : Ty) (ts : Tys) → HasFunctionType v l t → t ≡ FunctionTy r ts false → IsValueOrVoid r
function-result v None t r ts h e = (subst (IsProper v) e h.0).0
function-result v (Some l) t r ts h e = (subst (IsLibraryType v l) e h).1

main-there : (names : List (List ℕ)) (fs : List TypedFunction) (f : ℕ) → first_main names fs ≡ Some f → f < length fs
main-there names [] f e = absurd cc
main-there names (x ∷ fs) f e = by (main-there names fs) (named_main names x.name) e
  where
    later : ((g : ℕ) → first_main names fs ≡ Some g → g < length fs) → (o : Option ℕ) → first_main names fs ≡ o → option_map suc o ≡ Some f → f < suc (length fs)
    later rest None q e = absurd cc
    later rest (Some g) q e = let lt = rest g q in let same = some-same (suc g) f e in omega (arith, lt, same)

    by : ((g : ℕ) → first_main names fs ≡ Some g → g < length fs) → (b : Bool) → (if b then Some 0 else option_map suc (first_main names fs)) ≡ Some f → f < suc (length fs)
    by rest true e = let same = some-same 0 f e in omega (arith, same)
    by rest false e = later rest (first_main names fs) refl e

-- 5.1.2.2.1p1: a function with that name has a body
main-defined : (names : List (List ℕ)) (fs : List TypedFunction) → has_main_in names fs ≡ true → (g : ℕ) × ((is_some (get_or fs g no_function).body ≡ true) × (named_main names (get_or fs g no_function).name ≡ true))
main-defined names [] e = absurd cc
main-defined names (x ∷ fs) e = by (main-defined names fs) (is_main_function names x) refl e
  where
    by : (has_main_in names fs ≡ true → (g : ℕ) × ((is_some (get_or fs g no_function).body ≡ true) × (named_main names (get_or fs g no_function).name ≡ true))) → (b : Bool) → is_main_function names x ≡ b → (b || has_main_in names fs) ≡ true
        → (g : ℕ) × ((is_some (get_or (x ∷ fs) g no_function).body ≡ true) × (named_main names (get_or (x ∷ fs) g no_function).name ≡ true))
    by rest true q e = let b = both-true (is_some x.body) (named_main names x.name) q in (0, (b.0, b.1))
    by rest false q e = let z = rest e in (suc z.0, (z.1.0, z.1.1))

-- a function with a body is one of the unit
there-by-body : (fs : List TypedFunction) (f : ℕ) → is_some (get_or fs f no_function).body ≡ true → f < length fs
there-by-body fs f e = by (either f (length fs))
  where
    either : (o n : ℕ) → (o < n) ⊎ (n ≤ o)
    either o n = grind arith

    by : (f < length fs) ⊎ (length fs ≤ f) → f < length fs
    by (inl lt) = lt
    by (inr le) = let both : false ≡ true = sym (ap (λ (x : TypedFunction). is_some x.body) (beyond-at no_function fs f le)) ∙ e in absurd cc

-- 6.9.2p3: an object of file scope that is defined has a complete type at the end of the unit
end-complete : (s : State) (es : List Entity) → are_finished s es ≡ true → (o : ℕ) → HasEntity false o es → is_defined o es ≡ true → is_complete_in (env s) (object_at s.unit o).t ≡ true
end-complete s (e ∷ es) h o i d = by (λ j q. end-complete s es (both-true (is_finished s e) (are_finished s es) h).1 o j q) (is_entity false o e) refl i d
  where
    complete : (f d c : Bool) → (f || not d || c) ≡ true → f ≡ false → d ≡ true → c ≡ true
    complete false true c e p q = e
    complete true d c e p q = absurd cc
    complete false false c e p q = absurd cc

    by : (HasEntity false o es → is_defined o es ≡ true → is_complete_in (env s) (object_at s.unit o).t ≡ true) → (b : Bool) → is_entity false o e ≡ b → HasEntity false o (e ∷ es) → (if b then e.defined else is_defined o es) ≡ true
        → is_complete_in (env s) (object_at s.unit o).t ≡ true
    by rest true q i d =
        let b = both-true (beq e.function false) (e.number == o) q in
        let function : e.function ≡ false = bits-equal e.function false b.0 in
        let number : e.number ≡ o = eqb-true e.number o b.1 in
        let first = (both-true (is_finished s e) (are_finished s es) h).0 in
        let c = (both-true (not e.unsized || _) (e.function || not e.defined || is_complete_in (env s) (entity_type s e)) first).1 in
        subst (λ j. is_complete_in (env s) (object_at s.unit j).t ≡ true) number
        (ap (λ b. is_complete_in (env s) (if b then (function_at s.unit e.number).t else (object_at s.unit e.number).t)) (sym function) ∙ complete e.function e.defined (is_complete_in (env s) (entity_type s e)) c function d)
    by rest false q (inl r) d = let both : true ≡ false = sym r ∙ q in absurd cc
    by rest false q (inr j) d = rest j d
end-complete s [] h o i d = absurd i

module _ (t : Table) (ds : List DeclarationTree) (u : UnitState) (typed : typed_first ds (unit_at_first t) ≡ Some u) (resolved : first_unresolved u.state u.entities ≡ None) (chars : Each DeclarationCharacters ds) (texts : AreTexts t.texts)
    (ends : are_finished u.state u.entities ≡ true) (names : (finished_unit u).names ≡ literal_text ∷ heap_text ∷ t.names) (different : AreApart t.names) (main : has_main u.state.unit ≡ true) where
  abbrev v : WholeUnit
  v = finished_unit u

  -- a unit without tags, objects, functions and string literals: none of its types is large, no object of it has the name of allocations, and no
  -- function a body. So what typing keeps, whatever the unit at its end is, is known of each unit
  abbrev w : WholeUnit
  w = record v { completed = []; objects = []; functions = []; literals = [] }

  w-fixed : AreFixed w
  w-fixed f r ts body e = absurd cc

  w-apart : (o : ℕ) → (object_at w o).name ≢ heap_name
  w-apart o = each-at IsApart no_object [] o (λ e. absurd cc) tt

  w-done : IsFinished w
  w-done = record { filled = laid-none.filled; small = laid-none.small; texts = λ l. omega arith }

  first-run : IsUnit w None u
  first-run = (first-goes w w-done w-apart w-fixed ds (unit_at_first t) u chars (first-unit w t texts) typed).unit

  apart : (o : ℕ) → (object_at v o).name ≢ heap_name
  apart o = each-at IsApart no_object v.objects o (λ e. absurd cc) first-run.orderly.apart

  done : IsFinished v
  done = record {
    filled = first-run.orderly.laid.filled;
    small = first-run.orderly.laid.small;
    texts = λ l. (each-at IsWritten no_literal u.state.unit.literals l (tt, omega arith) first-run.orderly.written).1;
  }

  fixed : AreFixed v
  fixed f r ts body e =
      let plain = (first-run.functions f (there-by-body u.state.unit.functions f body)).fixed body in
      let both : true ≡ false = subst IsFixed e plain in
      absurd cc

  later : Later u.state v
  later = end-later u w first-run resolved

  run : Goes U v None (unit_at_first t) u
  run = first-goes v done apart fixed ds (unit_at_first t) u chars (first-unit v t texts) typed

  is : UnitIs v u
  is = run.is tt later (first-is v t)

  statics-are : v.statics ≡ statics_from u.entities 0 u.state.unit.objects
  statics-are = ap (λ xs. xs ++ statics_from u.entities 0 u.state.unit.objects) run.unit.unnoted.0

  placed-are : v.placed ≡ placed_from u.state.used 0 u.state.unit.functions
  placed-are = ap (λ xs. xs ++ placed_from u.state.used 0 u.state.unit.functions) run.unit.unnoted.1

  static-at : (o : ℕ) → IsIn o v.statics → (o < count u.state) × ((object_at u.state.unit o).lasting ≡ true) × (is_defined o u.entities ≡ true)
  static-at o i =
      let z = from-statics u.entities 0 u.state.unit.objects o (subst (IsIn o) statics-are i) in
      let e = z.is in
      let same : z.place ≡ o = omega (arith, e) in
      (subst (λ j. j < count u.state) same z.there, subst (λ j. (object_at u.state.unit j).lasting ≡ true) same z.lasting, z.defined)

  grown : Grown v u.state
  grown o lt = omega arith

  static-complete : (o : ℕ) → o < count u.state → (object_at u.state.unit o).lasting ≡ true → is_defined o u.entities ≡ true → is_complete_in (layouts v) (object_at v o).t ≡ true
  static-complete o lt l d = by (has o u.entities)
    where
      has : (o : ℕ) (es : List Entity) → HasEntity false o es ⊎ (HasEntity false o es → ⊥)
      has o [] = inr (λ q. q)
      has o (e ∷ es) = one (is_entity false o e) refl (has o es)
        where
          one : (b : Bool) → is_entity false o e ≡ b → HasEntity false o es ⊎ (HasEntity false o es → ⊥) → HasEntity false o (e ∷ es) ⊎ (HasEntity false o (e ∷ es) → ⊥)
          one true q rest = inl (inl q)
          one false q (inl r) = inl (inr r)
          one false q (inr r) = inr (neither q r)
            where
              neither : is_entity false o e ≡ false → (HasEntity false o es → ⊥) → HasEntity false o (e ∷ es) → ⊥
              neither q r (inl z) = let both : true ≡ false = sym z ∙ q in absurd cc
              neither q r (inr z) = r z

      by : HasEntity false o u.entities ⊎ (HasEntity false o u.entities → ⊥) → is_complete_in (layouts v) (object_at v o).t ≡ true
      by (inl i) = end-complete u.state u.entities ends o i d
      by (inr none) = (is.objects grown o lt).complete none l

  static-makeable : (o : ℕ) → IsIn o v.statics → IsMakeable v true o
  static-makeable o i =
      let z = static-at o i in
      let complete = static-complete o z.0 z.1 z.2 in
      record {
        storage = z.1;
        complete = complete;
        small = small v done (object_at v o).t (each-at (λ (x : TypedObject). IsProper v x.t) no_object u.state.unit.objects o tt is.proper.unit.objects) complete;
        named = apart o;
      }

  placed-is : (f : ℕ) → IsIn f v.placed → ((function_at v f).name ≢ heap_name) × HasBody v f
  placed-is f i =
      let z = from-placed u.state.used 0 u.state.unit.functions f (subst (IsIn f) placed-are i) in
      let e = z.1 in
      let same : z.0 ≡ f = omega (arith, e) in
      let body : HasBody v f = subst (λ j. is_some (function_at u.state.unit j).body ≡ true) same z.2 in
      let n = run.unit.found.found f (there-by-body u.state.unit.functions f body) in
      (identifier-apart (function_at v f).name n.0 n.1.0, body)

  -- 5.1.2.2.1p1, 6.4.2.1p5: one identifier is `main`, and so one function has this name
  main-text : (n i : ℕ) → n ≡ unit_name i → named_main v.names n ≡ true → get_or t.names i [] ≡ main_text
  main-text n i e q =
      let place : n ≡ suc (suc i) = omega (arith, e) in
      pointwise-same (get_or t.names i []) main_text
      (subst (λ k. pointwise nat_eq (get_or (literal_text ∷ heap_text ∷ t.names) k []) main_text ≡ true) place (subst (λ (ns : List (List ℕ)). pointwise nat_eq (get_or ns n []) main_text ≡ true) names q))

  one-main : (f g : ℕ) → f < length v.functions → g < length v.functions → named_main v.names (function_at v f).name ≡ true → named_main v.names (function_at v g).name ≡ true → f ≡ g
  one-main f g less few p q =
      let a = run.unit.found.found f less in
      let b = run.unit.found.found g few in
      let one = main-text (function_at v f).name a.0 a.1.0 p in
      let other = main-text (function_at v g).name b.0 b.1.0 q in
      let same : a.0 ≡ b.0 = different a.0 b.0 (main-within t.names a.0 one) (main-within t.names b.0 other) (one ∙ sym other) in
      run.unit.found.apart f g less few (a.1.0 ∙ ap unit_name same ∙ sym b.1.0)

  main-body : (f : ℕ) → main_of v ≡ Some f → HasBody v f
  main-body f e =
      let g = main-defined v.names v.functions main in
      subst (HasBody v) (sym (one-main f g.0 (main-there v.names v.functions f e) (there-by-body v.functions g.0 g.1.0) (main-has-name v.names v.functions f e) g.1.1)) g.1.0

  pub unit-typed : IsTypedUnit v
  unit-typed = record {
    functions = λ f r ts lt e. record {
      result = result-is r (function-result v (library_of u.state.unit f) (function_at v f).t r ts (is.proper.unit.functions f lt) e);
      main = λ q. let k : FunctionTy r ts false ≡ FunctionTy (IntTy Int) NoTys false = sym e ∙ (run.unit.functions f lt).main q in let same : r ≡ IntTy Int = cc in ap bare_type same;
      definition = is.functions (λ o few none. refl) f lt r ts e;
    };
    main = λ f e.
        let body = main-body f e in
        let lt = there-by-body v.functions f body in
        (lt, body, (IntTy Int, (run.unit.functions f lt).main (main-has-name v.names v.functions f e), refl));
    characters = λ l. (each-at IsWritten no_literal v.literals l (tt, omega arith) run.unit.orderly.written).0;
    literals = λ l i. in-each (λ l. 1 ≤ length (get_or v.literals l no_literal).bytes) v.instances run.unit.orderly.ended l i;
    statics = static-makeable;
    constants = λ o i. let z = static-at o i in (is.objects grown o z.0).constants z.1;
    placed = placed-is;
  }

-- 6.9: a unit that has a typing is well typed
pub typed-unit : (t : Table) (ds : List DeclarationTree) (v : WholeUnit) → UnitComes t ds (Typed v) → AreApart t.names → AreTexts t.texts → Each DeclarationCharacters ds → IsTypedUnit v
typed-unit t ds v c different texts chars =
    let u = c.0 in
    let z = typed-whole ds (unit_at_first t) u c.1.0 in
    let whole = c.1.3 in
    subst IsTypedUnit (sym whole) (
    unit-typed t ds u z.0 c.1.1 chars texts (ends ds u z.0 z.1) (subst (λ (x : WholeUnit). x.names ≡ literal_text ∷ heap_text ∷ t.names) whole (unit_names t ds v c)) different c.1.2)
  where
    ends : (ds : List DeclarationTree) (u : UnitState) → typed_first ds (unit_at_first t) ≡ Some u → (ds ≡ []) ⊎ (may_end u ≡ true) → are_finished u.state u.entities ≡ true
    ends ds u f (inl e) =
        let same : unit_at_first t ≡ u = some-same (unit_at_first t) u (subst (λ es. typed_first es (unit_at_first t) ≡ Some u) e f) in
        subst (λ (w : UnitState). are_finished w.state w.entities ≡ true) same refl
    ends ds u f (inr m) = (both-true (not u.unsized_typedef) (are_finished u.state u.entities) m).1
