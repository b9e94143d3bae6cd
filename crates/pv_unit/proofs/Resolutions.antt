-- Names that nothing defines, `main`, and static objects: what the code's steps come to.
use Rattle.std.proofs.Common.{◌≡◌, ℕ, ◌+◌, ◌<◌, ◌≤◌, Bool, true, false, List, [], ◌∷◌, ◌++◌, Some, None, Result, Ok, Err, OnOk, length, map, take, drop, suc, get_or, refl, sym, ◌∙◌, ap, arith, append_assoc}
use Rattle.std.specs.Prelude.{if◌then◌else◌, ◌||◌, ◌&&◌, Option, is_some, IsTrue}
use Rattle.std.specs.Option.{option_map}
use Rattle.std.proofs.Math.Bool.{or_assoc}
use Rattle.std.proofs.Math.Seq.{drop-cons}
use Rattle.std.proofs.lemmas.List.{drop_all, length-map, map_push, take_more}
use Rattle.pv_typed.specs.Entries.{with_placed as with_one_placed}
use Rattle.pv_typed.specs.Formed.{Grown}
use Rattle.pv_typed.specs.Mains.{first_main, named_main}
use Rattle.pv_typed.specs.Tables.{Stored, function_in, nodes, whole_unit}
use Rattle.pv_typed.specs.TypedUnits.{TypedFunction, WholeUnit, function_at}
use Rattle.pv_typed.specs.UnitParts.{no_function}
use Rattle.pv_typed.proofs.Adding.{grown_trans}
use Rattle.pv_check.specs.declared.scopes.Named.{Named}
use Rattle.pv_check.specs.Raw.{used_of}
use Rattle.pv_check.specs.State.{State, Used}
use Rattle.pv_unit.specs.Redeclarations.{Entity}
use Rattle.pv_unit.specs.Resolving.{placed_if}
use Rattle.pv_unit.specs.Units.{is_unresolved, placed_from, points, statics_from, first_unresolved, uses, with_statics, with_placed}
use Rattle.pv_unit.specs.UnitParts.{is_main_function, is_used, has_main_in, is_pointed}

-- ---- what expressions name

or_false : (b : Bool) → (b || false) ≡ b
or_false true = refl
or_false false = refl

absorbed : (c a : Bool) → (c ≡ true → a ≡ true) → a ≡ (a || c)
absorbed true a f = let is = f refl in is ∙ sym (ap (λ b. b || true) is)
absorbed false a f = sym (or_false a)

used_last : (f : Bool) (k : ℕ) (us : List Used) (u : Used) → is_used f k (us ++ (u ∷ [])) ≡ (is_used f k us || uses f k u)
used_last f k [] u = or_false (uses f k u)
used_last f k (x ∷ us) u = ap (λ b. uses f k x || b) (used_last f k us u) ∙ sym (or_assoc (uses f k x) (is_used f k us) (uses f k u))

pub used_next : (f : Bool) (k : ℕ) (used : List Named) (i : ℕ) (d : Named) (was now : Bool) → i < length used → was ≡ is_used f k (map used_of (take i used)) → now ≡ (was || uses f k (used_of (get_or used i d)))
    → now ≡ is_used f k (map used_of (take (i + 1) used))
used_next f k used i d was now lt before more =
    let u = used_of (get_or used i d) in
    more ∙ ap (λ b. b || uses f k u) before ∙ sym (used_last f k (map used_of (take i used)) u) ∙ ap (is_used f k) (sym (map_push used_of (take i used) (get_or used i d))) ∙ ap (λ us. is_used f k (map used_of us)) (sym (take_more used i d lt))

pointed_last : (k : ℕ) (us : List Used) (u : Used) → is_pointed k (us ++ (u ∷ [])) ≡ (is_pointed k us || points k u)
pointed_last k [] u = or_false (points k u)
pointed_last k (x ∷ us) u = ap (λ b. points k x || b) (pointed_last k us u) ∙ sym (or_assoc (points k x) (is_pointed k us) (points k u))

pub pointed_next : (k : ℕ) (used : List Named) (i : ℕ) (d : Named) (was now : Bool) → i < length used → was ≡ is_pointed k (map used_of (take i used)) → now ≡ (was || points k (used_of (get_or used i d)))
    → now ≡ is_pointed k (map used_of (take (i + 1) used))
pointed_next k used i d was now lt before more =
    let u = used_of (get_or used i d) in
    more ∙ ap (λ b. b || points k u) before ∙ sym (pointed_last k (map used_of (take i used)) u) ∙ ap (is_pointed k) (sym (map_push used_of (take i used) (get_or used i d))) ∙ ap (λ us. is_pointed k (map used_of us)) (sym (take_more used i d lt))

-- ---- one entity after the other

turned : {A : Type 0} (b : Bool) (x y : A) → b ≡ false → y ≡ (if b then x else y)
turned true x y e = cc
turned false x y e = refl

taken : {A : Type 0} (b : Bool) (x y : A) → b ≡ true → x ≡ (if b then x else y)
taken true x y e = refl
taken false x y e = cc

-- the next one is defined, or not named
pub resolved_next : (s : State) (es : List Entity) (i : ℕ) (d : Entity) → i < length es → is_unresolved s (get_or es i d) ≡ false → first_unresolved s (drop (i + 1) es) ≡ first_unresolved s (drop i es)
resolved_next s es i d lt not_so =
    let e = get_or es i d in
    let step : i + 1 ≡ suc i = omega arith in
    ap (λ j. first_unresolved s (drop j es)) step ∙ turned (is_unresolved s e) (Some e.name) (first_unresolved s (drop (suc i) es)) not_so ∙ ap (first_unresolved s) (sym (drop-cons es i d lt))

pub unresolved_here : (s : State) (es : List Entity) (i : ℕ) (d : Entity) → i < length es → is_unresolved s (get_or es i d) ≡ true → Some (get_or es i d).name ≡ first_unresolved s (drop i es)
unresolved_here s es i d lt is_so =
    let e = get_or es i d in
    taken (is_unresolved s e) (Some e.name) (first_unresolved s (drop (suc i) es)) is_so ∙ ap (first_unresolved s) (sym (drop-cons es i d lt))

pub none_unresolved : (s : State) (es : List Entity) (i : ℕ) → length es ≤ i → None ≡ first_unresolved s (drop i es)
none_unresolved s es i end = sym (ap (first_unresolved s) (drop_all i es end))

pub main_next : (names : List (List ℕ)) (fs : List TypedFunction) (i : ℕ) (d : TypedFunction) → i < length fs → is_main_function names (get_or fs i d) ≡ false → has_main_in names (drop (i + 1) fs) ≡ has_main_in names (drop i fs)
main_next names fs i d lt not_so =
    let step : i + 1 ≡ suc i = omega arith in
    ap (λ j. has_main_in names (drop j fs)) step ∙ ap (λ b. b || has_main_in names (drop (suc i) fs)) (sym not_so) ∙ ap (has_main_in names) (sym (drop-cons fs i d lt))

pub main_here : (names : List (List ℕ)) (fs : List TypedFunction) (i : ℕ) (d : TypedFunction) → i < length fs → is_main_function names (get_or fs i d) ≡ true → true ≡ has_main_in names (drop i fs)
main_here names fs i d lt is_so = ap (λ b. b || has_main_in names (drop (suc i) fs)) (sym is_so) ∙ ap (has_main_in names) (sym (drop-cons fs i d lt))

pub no_main : (names : List (List ℕ)) (fs : List TypedFunction) (i : ℕ) → length fs ≤ i → false ≡ has_main_in names (drop i fs)
no_main names fs i end = sym (ap (has_main_in names) (drop_all i fs end))

main_shifted : (o : Option ℕ) → IsTrue (is_some o) → IsTrue (is_some (option_map suc o))
main_shifted None h = h
main_shifted (Some k) h = h

main_further : (names : List (List ℕ)) (fs : List TypedFunction) (some named : Bool) → (has_main_in names fs ≡ true → IsTrue (is_some (first_main names fs)))
    → ((some && named) || has_main_in names fs) ≡ true → IsTrue (is_some (if named then Some 0 else option_map suc (first_main names fs)))
main_further names fs some true rest h = refl
main_further names fs true false rest h = main_shifted (first_main names fs) (rest h)
main_further names fs false false rest h = main_shifted (first_main names fs) (rest h)

-- a unit that defines `main` has a function of that name
pub main_found : (names : List (List ℕ)) (fs : List TypedFunction) → has_main_in names fs ≡ true → IsTrue (is_some (first_main names fs))
main_found names [] e = absurd cc
main_found names (f ∷ fs) e = main_further names fs (is_some f.body) (named_main names f.name) (main_found names fs) e

-- where one of the functions is `main`, there is one
pub some_function : (names : List (List ℕ)) (fs : List TypedFunction) → IsTrue (is_some (first_main names fs)) → 0 < length fs
some_function names [] h = absurd cc
some_function names (f ∷ fs) h = omega arith

-- ---- static objects

-- the objects up to a number are noted, where they are static and defined
pub record Noting (m0 : Stored) (es : List Entity) (i : ℕ) (m : Stored) : Type 0 where
  pub grown : Grown m0 m
  pub known : m.known ≡ m0.known
  pub objects : (whole_unit m).objects ≡ (whole_unit m0).objects
  pub counted : length m.objects ≡ length m0.objects
  pub left : with_statics (statics_from es i (drop i (whole_unit m0).objects)) (whole_unit m) ≡ with_statics (statics_from es 0 (whole_unit m0).objects) (whole_unit m0)

nil_right : {A : Type 0} (xs : List A) → xs ≡ xs ++ []
nil_right [] = refl
nil_right (x ∷ xs) = ap (λ ys. x ∷ ys) (nil_right xs)

-- ---- functions that are pointed to

-- the functions up to a number are noted, where they are pointed to and have a body
pub record Placing (m0 : Stored) (used : List Named) (i : ℕ) (m : Stored) : Type 0 where
  pub grown : Grown m0 m
  pub known : m.known ≡ m0.known
  pub functions : (whole_unit m).functions ≡ (whole_unit m0).functions
  pub counted : length m.functions ≡ length m0.functions
  pub left : with_placed (placed_from (map used_of used) i (drop i (whole_unit m0).functions)) (whole_unit m) ≡ with_placed (placed_from (map used_of used) 0 (whole_unit m0).functions) (whole_unit m0)

placed_functions : (b : Bool) (f : ℕ) (u : WholeUnit) → (placed_if b f u).functions ≡ u.functions
placed_functions true f u = refl
placed_functions false f u = refl

placed_step : (b : Bool) (us : List Used) (i : ℕ) (rest : List TypedFunction) (u : WholeUnit)
    → with_placed (placed_from us (i + 1) rest) (placed_if b i u) ≡ with_placed (if b then i ∷ placed_from us (i + 1) rest else placed_from us (i + 1) rest) u
placed_step true us i rest u = ap (λ (ps : List ℕ). record u { placed = ps }) (append_assoc u.placed (i ∷ []) (placed_from us (i + 1) rest))
placed_step false us i rest u = refl

-- one function more
pub placing_next : (m0 m n : Stored) (used : List Named) (i : ℕ) → i < length (whole_unit m0).functions → Placing m0 used i m → Grown m n → n.known ≡ m.known
    → whole_unit n ≡ placed_if (is_some (function_at (whole_unit m) i).body && is_pointed i (map used_of used)) i (whole_unit m) → Placing m0 used (i + 1) n
placing_next m0 m n used i lt p grown known is =
    let us = map used_of used in
    let fs = (whole_unit m0).functions in
    let f : TypedFunction = get_or fs i no_function in
    let here : Bool = is_some (function_at (whole_unit m) i).body && is_pointed i us in
    let functions : (whole_unit n).functions ≡ fs = ap (λ (u : WholeUnit). u.functions) is ∙ placed_functions here i (whole_unit m) ∙ p.functions in
    let as_long : length (whole_unit n).functions ≡ length fs = ap (λ (gs : List TypedFunction). length gs) functions in
    let before = length-map m0.functions (function_in m0.known (nodes m0)) in
    let behind = length-map n.functions (function_in n.known (nodes n)) in
    let step : i + 1 ≡ suc i = omega arith in record {
      grown = grown_trans m0 m n p.grown grown;
      known = known ∙ p.known;
      functions = functions;
      counted = omega (arith, as_long, before, behind);
      left =
          ap (λ (u : WholeUnit). with_placed (placed_from us (i + 1) (drop (i + 1) fs)) u) is
          ∙ placed_step here us i (drop (i + 1) fs) (whole_unit m)
          ∙ ap (λ (gs : List TypedFunction). with_placed (if is_some (get_or gs i no_function).body && is_pointed i us then i ∷ placed_from us (i + 1) (drop (i + 1) fs) else placed_from us (i + 1) (drop (i + 1) fs)) (whole_unit m)) p.functions
          ∙ ap (λ (j : ℕ). with_placed (placed_from us i (f ∷ drop j fs)) (whole_unit m)) step
          ∙ ap (λ (gs : List TypedFunction). with_placed (placed_from us i gs) (whole_unit m)) (sym (drop-cons fs i no_function lt))
          ∙ p.left;
    }

pub placed_on : {T E : Type 0} (r : Result T E) (w u : WholeUnit) (f : ℕ) (b : Bool) → true ≡ b → OnOk r (w ≡ with_one_placed u f) → OnOk r (w ≡ placed_if b f u)
placed_on (Ok x) w u f b e h = h ∙ ap (λ (c : Bool). placed_if c f u) e
placed_on (Err x) w u f b e h = tt
