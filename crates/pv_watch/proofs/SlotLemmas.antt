-- Lists of seats, seen as lists of slots.
use Rattle.std.proofs.Common.{◌≡◌, ℕ, zero, suc, ◌+◌, ◌<◌, List, [], ◌∷◌, ◌++◌, Bool, true, false, cond, map, take, drop, set, get_or, length, refl, sym, subst, ◌∙◌, ap, arith}
use Rattle.std.specs.List.{filter, AllZip}
use Rattle.std.proofs.lemmas.List.{map-set, length-map, take_all, append-nil, append_assoc, take_more, map-append}
use Rattle.pv_watch.specs.Slots.{Slot, slots, Says, SayAll}
use Rattle.pv_watch.specs.Adding.{Adds}
use Rattle.pv_watch.specs.declared.seats.Seat.TheVariants.{In}

kept_or_not : {X Y : Type 0} (f : X → Y) (b : Bool) (x : X) (xs : List X) (ys : List Y) → map f xs ≡ ys → map f (cond b (x ∷ xs) xs) ≡ cond b (f x ∷ ys) ys
kept_or_not f true x xs ys e = ap (λ l. f x ∷ l) e
kept_or_not f false x xs ys e = e

-- a filter before a map or after it
pub filter_mapped : {X Y : Type 0} (f : X → Y) (p : Y → Bool) (xs : List X) → map f (filter (λ x. p (f x)) xs) ≡ filter p (map f xs)
filter_mapped f p [] = refl
filter_mapped f p (x ∷ xs) = kept_or_not f (p (f x)) x (filter (λ y. p (f y)) xs) (filter p (map f xs)) (filter_mapped f p xs)

-- watchers that have just come in
pub slots_in : {W : Type 0} (view : W → Slot) (ws : List W) → slots view (map (λ (w : W). In w) ws) ≡ map view ws
slots_in view [] = refl
slots_in view (w ∷ ws) = ap (λ l. view w ∷ l) (slots_in view ws)

-- ---- one after the other is changed as R says: the first i are, the rest are as they were

abbrev pub ChangedSoFar : {Y : Type 0} → (Y → Y → Type 0) → List Y → List Y → ℕ → Type 0
ChangedSoFar R old now i = AllZip R (take i old) (take i now) × (drop i now ≡ drop i old) × (length now ≡ length old)

pub changed_first : {Y : Type 0} (R : Y → Y → Type 0) (xs : List Y) → ChangedSoFar R xs xs 0
changed_first R xs = (tt, refl, refl)

changed_one : {Y : Type 0} (R : Y → Y → Type 0) (old now : List Y) (i : ℕ) (d v : Y) → i < length old → AllZip R (take i old) (take i now) → drop i now ≡ drop i old → R (get_or now i d) v
    → AllZip R (take (suc i) old) (take (suc i) (set now i v)) × (drop (suc i) (set now i v) ≡ drop (suc i) old)
changed_one R [] now i d v lt h e r = absurd (omega (arith, lt))
changed_one R (o ∷ os) [] zero d v lt h e r = absurd (omega (arith, ap length e))
changed_one {Y} R (o ∷ os) (n ∷ ns) zero d v lt h e r = ((subst (λ x. R x v) (ap (λ (l : List Y). get_or l 0 d) e) r, tt), ap (λ (l : List Y). drop (suc zero) l) e)
changed_one R (o ∷ os) [] (suc i) d v lt h e r = absurd h
changed_one R (o ∷ os) (n ∷ ns) (suc i) d v lt h e r = let more = changed_one R os ns i d v (omega (arith, lt)) h.1 e r in ((h.0, more.0), more.1)

length_set : {Y : Type 0} (xs : List Y) (i : ℕ) (v : Y) → length (set xs i v) ≡ length xs
length_set [] i v = refl
length_set (x ∷ xs) zero v = refl
length_set (x ∷ xs) (suc i) v = ap suc (length_set xs i v)

get_mapped : {X Y : Type 0} (f : X → Y) (xs : List X) (i : ℕ) (d : X) → get_or (map f xs) i (f d) ≡ f (get_or xs i d)
get_mapped f [] i d = refl
get_mapped f (x ∷ xs) zero d = refl
get_mapped f (x ∷ xs) (suc i) d = get_mapped f xs i d

pub changed_more : {X Y : Type 0} (view : X → Y) (R : Y → Y → Type 0) (old now : List X) (i : ℕ) (x y : X) → i < length old
    → ChangedSoFar R (map view old) (map view now) i → R (view (get_or now i x)) (view y) → ChangedSoFar R (map view old) (map view (set now i y)) (i + 1)
changed_more view R old now i x y lt h r =
    let long : i < length (map view old) = omega (arith, lt, length-map old view) in
    let item : view (get_or now i x) ≡ get_or (map view now) i (view x) = sym (get_mapped view now i x) in
    let one = changed_one R (map view old) (map view now) i (view x) (view y) long h.0 h.1 (subst (λ z. R z (view y)) item r) in
    let next : suc i ≡ i + 1 = omega arith in
    subst (λ zs. ChangedSoFar R (map view old) zs (i + 1)) (sym (map-set view now i y))
    (subst (ChangedSoFar R (map view old) (set (map view now) i (view y))) next (one.0, one.1, length_set (map view now) i (view y) ∙ h.2))

pub changed_all : {Y : Type 0} (R : Y → Y → Type 0) (old now : List Y) (i : ℕ) → length old ≡ i → ChangedSoFar R old now i → AllZip R old now
changed_all R old now i e h =
    subst (λ xs. AllZip R xs now) (take_all i old (omega (arith, e))) (subst (AllZip R (take i old)) (take_all i now (omega (arith, e, h.2))) h.0)

-- ---- texts

pub say_more : (names : List (List ℕ)) (ss : List Slot) (s : Slot) (all text : List ℕ) → SayAll names ss all → Says names s text → SayAll names (ss ++ s ∷ []) (all ++ text)
say_more names [] s all text e h = (text, [], ap (λ l. l ++ text) e ∙ sym (append-nil text), h, refl)
say_more names (x ∷ ss) s all text (first, rest, e, says, more) h = (first, rest ++ text, ap (λ l. l ++ text) e ∙ append_assoc first rest text, says, say_more names ss s rest text more h)

pub texts_more : {X : Type 0} (names : List (List ℕ)) (view : X → Slot) (xs : List X) (i : ℕ) (x : X) (all more : List ℕ) → i < length xs → x ≡ get_or xs i x
    → SayAll names (map view (take i xs)) all → Adds names (view x) all more → SayAll names (map view (take (i + 1) xs)) more
texts_more names view xs i x all more lt was h adds =
    let e1 : take (i + 1) xs ≡ take i xs ++ x ∷ [] = take_more xs i x lt ∙ ap (λ y. take i xs ++ y ∷ []) (sym was) in
    let e2 : map view (take (i + 1) xs) ≡ map view (take i xs) ++ view x ∷ [] = ap (map view) e1 ∙ map-append view (take i xs) (x ∷ []) in
    subst (λ ss. SayAll names ss more) (sym e2) (subst (SayAll names (map view (take i xs) ++ view x ∷ [])) (sym adds.whole) (say_more names (map view (take i xs)) (view x) all adds.text h adds.says))
