-- Where objects and functions of file scope stand: one more, and more that is known of one.
use Rattle.std.proofs.Common.{◌≡◌, ℕ, zero, suc, ◌<◌, set, slice_index_or, nat_eq, Bool, true, false, List, [], ◌∷◌, ◌++◌, Option, Some, None, IfSome, length, map, option_map, refl, sym, ◌∙◌, ap, subst, arith}
use Rattle.std.specs.Prelude.{if◌then◌else◌}
use Rattle.std.proofs.lemmas.List.{length-map, map_push}
use Rattle.pv_unit.specs.declared.entities.Entity.{Entity as Kept}
use Rattle.pv_unit.specs.Redeclarations.{Entity, entity, is_entity, entities_after, is_initialized}
use Rattle.pv_unit.specs.Entering.{entity_of, no_entity}
use Rattle.pv_unit.specs.Places.{ArePlaced, Keeps, defined_in, first_in, initialized_in, noted_in, or_other, with_more}
use Rattle.pv_unit.specs.Definitions.{is_defined}

-- ---- what stands there

pub first_within : (f : Bool) (k : ℕ) (es : List Entity) → IfSome (first_in f k es) (λ p. p < length es)
first_within f k [] = tt
first_within f k (e ∷ es) = here (is_entity f k e) (first_in f k es) (first_within f k es)
  where
    here : (t : Bool) (o : Option ℕ) → IfSome o (λ p. p < length es) → IfSome (if t then Some 0 else option_map suc o) (λ p. p < suc (length es))
    here true o h = omega arith
    here false None h = tt
    here false (Some p) h = omega (arith, h)

pub noted_first : (f : Bool) (k : ℕ) (d i b : Bool) (es : List Entity) → noted_in (first_in f k es) d i b es ≡ entities_after f k d i b es
noted_first f k d i b [] = refl
noted_first f k d i b (e ∷ es) = here (is_entity f k e) (first_in f k es) (noted_first f k d i b es)
  where
    here : (t : Bool) (o : Option ℕ) → noted_in o d i b es ≡ entities_after f k d i b es → noted_in (if t then Some 0 else option_map suc o) d i b (e ∷ es) ≡ (if t then with_more d i b e ∷ es else e ∷ entities_after f k d i b es)
    here true o h = refl
    here false None h = ap (λ zs. e ∷ zs) h
    here false (Some p) h = ap (λ zs. e ∷ zs) h

pub initialized_first : (f : Bool) (k : ℕ) (es : List Entity) → initialized_in (first_in f k es) es ≡ is_initialized f k es
initialized_first f k [] = refl
initialized_first f k (e ∷ es) = here (is_entity f k e) (first_in f k es) (initialized_first f k es)
  where
    here : (t : Bool) (o : Option ℕ) → initialized_in o es ≡ is_initialized f k es → initialized_in (if t then Some 0 else option_map suc o) (e ∷ es) ≡ (if t then e.initialized else is_initialized f k es)
    here true o h = refl
    here false None h = h
    here false (Some p) h = h

pub defined_first : (k : ℕ) (es : List Entity) → defined_in (first_in false k es) es ≡ is_defined k es
defined_first k [] = refl
defined_first k (e ∷ es) = here (is_entity false k e) (first_in false k es) (defined_first k es)
  where
    here : (t : Bool) (o : Option ℕ) → defined_in o es ≡ is_defined k es → defined_in (if t then Some 0 else option_map suc o) (e ∷ es) ≡ (if t then e.defined else is_defined k es)
    here true o h = refl
    here false None h = h
    here false (Some p) h = h

pub place_within : (f : Bool) (k : ℕ) (es : List Entity) (all : List Kept) (o : Option ℕ) → o ≡ first_in f k es → map entity_of all ≡ es → IfSome o (λ p. p < length all)
place_within f k es all o is same =
    subst (λ n. IfSome o (λ p. p < n)) (sym (ap length same) ∙ length-map all entity_of)
    (subst (λ (q : Option ℕ). IfSome q (λ p. p < length es)) (sym is) (first_within f k es))

pub noted_is : (d i b : Bool) (all : List Kept) (p : ℕ) (x : Kept) → p < length all → entity_of x ≡ with_more d i b (entity_of (slice_index_or all p no_entity))
    → map entity_of (set all p x) ≡ noted_in (Some p) d i b (map entity_of all)
noted_is d i b [] p x lt e = absurd (omega (arith, lt))
noted_is d i b (y ∷ ys) zero x lt e = ap (λ z. z ∷ map entity_of ys) e
noted_is d i b (y ∷ ys) (suc p) x lt e = ap (λ zs. entity_of y ∷ zs) (noted_is d i b ys p x (omega (arith, lt)) e)

-- ---- more is known of one

pub first_marked : (f : Bool) (k : ℕ) (d i b : Bool) (g : Bool) (j : ℕ) (es : List Entity) → first_in g j (entities_after f k d i b es) ≡ first_in g j es
first_marked f k d i b g j [] = refl
first_marked f k d i b g j (e ∷ es) = here (is_entity f k e) (first_marked f k d i b g j es)
  where
    here : (t : Bool) → first_in g j (entities_after f k d i b es) ≡ first_in g j es → first_in g j (if t then with_more d i b e ∷ es else e ∷ entities_after f k d i b es) ≡ first_in g j (e ∷ es)
    here true h = refl
    here false h = ap (λ o. if is_entity g j e then Some 0 else option_map suc o) h

pub placed_marked : (f : Bool) (k : ℕ) (d i b : Bool) (g : Bool) (es : List Entity) (ps : List (ℕ × ℕ)) → ArePlaced g es ps → ArePlaced g (entities_after f k d i b es) ps
placed_marked f k d i b g es ps h = λ j. h j ∙ sym (first_marked f k d i b g j es)

-- ---- one more

first_push : (f : Bool) (k : ℕ) (es : List Entity) (x : Entity) → first_in f k (es ++ (x ∷ [])) ≡ or_other (first_in f k es) (if is_entity f k x then Some (length es) else None)
first_push f k [] x = here (is_entity f k x)
  where
    here : (t : Bool) → (if t then Some 0 else None) ≡ or_other None (if t then Some 0 else None)
    here true = refl
    here false = refl
first_push f k (e ∷ es) x =
    ap (λ o. if is_entity f k e then Some 0 else option_map suc o) (first_push f k es x) ∙ here (is_entity f k e) (first_in f k es) (is_entity f k x)
  where
    here : (t : Bool) (o : Option ℕ) (u : Bool) → (if t then Some 0 else option_map suc (or_other o (if u then Some (length es) else None))) ≡ or_other (if t then Some 0 else option_map suc o) (if u then Some (suc (length es)) else None)
    here true o u = refl
    here false None true = refl
    here false None false = refl
    here false (Some i) u = refl

other_none : (o : Option ℕ) → o ≡ or_other o None
other_none None = refl
other_none (Some i) = refl

own : (f : Bool) (n k q : ℕ) → nat_eq k q ≡ is_entity f q (entity n f k)
own true n k q = refl
own false n k q = refl

pub placed_own : (f : Bool) (n k : ℕ) (es : List Entity) (ps qs : List (ℕ × ℕ)) → ArePlaced f es ps → Keeps k (length es) ps qs → ArePlaced f (es ++ (entity n f k ∷ [])) qs
placed_own f n k es ps qs h keeps = λ q.
    keeps q
    ∙ ap (λ o. or_other o (if nat_eq k q then Some (length es) else None)) (h q)
    ∙ ap (λ t. or_other (first_in f q es) (if t then Some (length es) else None)) (own f n k q)
    ∙ sym (first_push f q es (entity n f k))

pub placed_function : (n k : ℕ) (es : List Entity) (ps : List (ℕ × ℕ)) → ArePlaced false es ps → ArePlaced false (es ++ (entity n true k ∷ [])) ps
placed_function n k es ps h = λ q. h q ∙ other_none (first_in false q es) ∙ sym (first_push false q es (entity n true k))

pub placed_object : (n k : ℕ) (es : List Entity) (ps : List (ℕ × ℕ)) → ArePlaced true es ps → ArePlaced true (es ++ (entity n false k ∷ [])) ps
placed_object n k es ps h = λ q. h q ∙ other_none (first_in true q es) ∙ sym (first_push true q es (entity n false k))

-- the same of what is kept
pub placed_items : (f : Bool) (items more all : List Kept) (x : Kept) (ps : List (ℕ × ℕ)) → more ≡ items → all ≡ more ++ (x ∷ []) → ArePlaced f (map entity_of items ++ (entity_of x ∷ [])) ps → ArePlaced f (map entity_of all) ps
placed_items f items more all x ps room is h =
    subst (λ (es : List Entity). ArePlaced f es ps) (sym (ap (map entity_of) (is ∙ ap (λ ys. ys ++ (x ∷ [])) room) ∙ map_push entity_of items x)) h
