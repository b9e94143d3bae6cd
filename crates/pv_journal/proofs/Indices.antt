-- What the indices of instances say is what a search of the list says.
use Rattle.std.proofs.Common.{◌≡◌, ℕ, zero, suc, ◌+◌, ◌<◌, ◌≤◌, max, Bool, true, false, ◌&&◌, ◌||◌, cond, eqb, ltb, not, List, [], ◌∷◌, ◌++◌, length, get_or, set, Option, Some, None, refl, sym, ap, ◌∙◌, subst, ◌⊎◌, inl, inr, ⊎_elim, arith, position, nat_cmp, IsSome}
use Rattle.std.proofs.lemmas.Bool.{false≢true, and_parts, and_from, cases_lt, cases_eq}
use Rattle.std.proofs.lemmas.Bool.Decides.{Decides-eqb, nat_tests}
use Rattle.std.proofs.lemmas.Option.{none-some, same_Some, slice_get_within, get_or_from_slice_get, slice_get-get_or}
use Rattle.std.proofs.lemmas.List.Sums.{position_or_len_is}
use Rattle.std.specs.Cmp.{nat_cmp_total, eq_by_cmp_equiv}
use Rattle.std.specs.BTreeMap.{is_at}
use Rattle.std.specs.List.{position_or_len, slice_get, list_all, list_any}
use Rattle.pv_journal.specs.declared.line.Key.{Key}
use Rattle.pv_journal.specs.declared.held.Held.{Held}
use Rattle.pv_journal.specs.Keyed.{same_key, is_of, exceeded_by, shares_bytes}
use Rattle.pv_journal.specs.Indexed.{greatest_number, Stands, AreLiving, AreDistinct, said_at}

-- ---- rows of a list with one more, or with one changed

pub get_push : {X : Type 0} (xs : List X) (y : X) (k : ℕ) (x : X) → slice_get (xs ++ y ∷ []) k ≡ Some x → (slice_get xs k ≡ Some x) ⊎ ((k ≡ length xs) × (x ≡ y))
get_push [] y zero x h = inr (refl, sym (same_Some y x h))
get_push [] y (suc k) x h = absurd (none-some x h)
get_push (z ∷ zs) y zero x h = inl h
get_push (z ∷ zs) y (suc k) x h = ⊎_elim (λ l. inl l) (λ r. inr (ap suc r.0, r.1)) (get_push zs y k x h)

pub get_before : {X : Type 0} (xs : List X) (y : X) (k : ℕ) (x : X) → slice_get xs k ≡ Some x → slice_get (xs ++ y ∷ []) k ≡ Some x
get_before [] y k x h = absurd (none-some x h)
get_before (z ∷ zs) y zero x h = h
get_before (z ∷ zs) y (suc k) x h = get_before zs y k x h

pub get_last : {X : Type 0} (xs : List X) (y : X) → slice_get (xs ++ y ∷ []) (length xs) ≡ Some y
get_last [] y = refl
get_last (z ∷ zs) y = get_last zs y

pub get_set : {X : Type 0} (xs : List X) (i : ℕ) (y : X) (k : ℕ) (x : X) → slice_get (set xs i y) k ≡ Some x → ((k ≡ i) × (x ≡ y)) ⊎ ((k ≡ i → ⊥) × (slice_get xs k ≡ Some x))
get_set [] i y k x h = absurd (none-some x h)
get_set (z ∷ zs) zero y zero x h = inl (refl, sym (same_Some y x h))
get_set (z ∷ zs) zero y (suc k) x h = inr ((λ e. omega (arith, e)), h)
get_set (z ∷ zs) (suc i) y zero x h = inr ((λ e. omega (arith, e)), h)
get_set (z ∷ zs) (suc i) y (suc k) x h = ⊎_elim (λ l. inl (ap suc l.0, l.1)) (λ r. inr ((λ e. r.0 (omega (arith, e))), r.1)) (get_set zs i y k x h)

pub set_other : {X : Type 0} (xs : List X) (i : ℕ) (y : X) (k : ℕ) (x : X) → (k ≡ i → ⊥) → slice_get xs k ≡ Some x → slice_get (set xs i y) k ≡ Some x
set_other [] i y k x n h = absurd (none-some x h)
set_other (z ∷ zs) zero y zero x n h = absurd (n refl)
set_other (z ∷ zs) zero y (suc k) x n h = h
set_other (z ∷ zs) (suc i) y zero x n h = h
set_other (z ∷ zs) (suc i) y (suc k) x n h = set_other zs i y k x (λ e. n (ap suc e)) h

pub set_here : {X : Type 0} (xs : List X) (i : ℕ) (y x : X) → slice_get xs i ≡ Some x → slice_get (set xs i y) i ≡ Some y
set_here [] i y x h = absurd (none-some x h)
set_here (z ∷ zs) zero y x h = refl
set_here (z ∷ zs) (suc i) y x h = set_here zs i y x h

-- ---- the greatest number of a name

abbrev pub raised : (n : ℕ) → Held → ℕ → ℕ
raised n h g = cond (eqb h.key.name n) (max h.key.k g) g

max_swap : (a b c : ℕ) → max a (max b c) ≡ max b (max a c)
max_swap a b c = omega arith

max_cond : (b d : Bool) (a c g : ℕ) → cond b (max a (cond d (max c g) g)) (cond d (max c g) g) ≡ cond d (max c (cond b (max a g) g)) (cond b (max a g) g)
max_cond true true a c g = max_swap a c g
max_cond true false a c g = refl
max_cond false true a c g = refl
max_cond false false a c g = refl

pub greatest_push : (n : ℕ) (xs : List Held) (y : Held) → greatest_number n (xs ++ y ∷ []) ≡ raised n y (greatest_number n xs)
greatest_push n [] y = refl
greatest_push n (x ∷ xs) y = ap (raised n x) (greatest_push n xs y) ∙ max_cond (eqb x.key.name n) (eqb y.key.name n) x.key.k y.key.k (greatest_number n xs)

pub greatest_set : (n : ℕ) (xs : List Held) (i : ℕ) (x y : Held) → slice_get xs i ≡ Some x → y.key ≡ x.key → greatest_number n (set xs i y) ≡ greatest_number n xs
greatest_set n [] i x y h e = refl
greatest_set n (z ∷ zs) zero x y h e = ap (λ (k : Key). cond (eqb k.name n) (max k.k (greatest_number n zs)) (greatest_number n zs)) (e ∙ ap (λ (w : Held). w.key) (sym (same_Some z x h)))
greatest_set n (z ∷ zs) (suc i) x y h e = ap (raised n z) (greatest_set n zs i x y h e)

below_both : (b : Bool) (a g k : ℕ) → ((not b || ltb a k) && ltb g k) ≡ ltb (cond b (max a g) g) k
below_both true a g k = by (ltb a k) (ltb g k) refl refl
  where
    by : (s t : Bool) → ltb a k ≡ s → ltb g k ≡ t → (s && t) ≡ ltb (max a g) k
    by true true p q = sym (grind (arith, nat_tests))
    by true false p q = sym (grind (arith, nat_tests))
    by false t p q = sym (grind (arith, nat_tests))
below_both false a g k = refl

pub exceeds_by : (key : Key) (xs : List Held) → 1 ≤ key.k → list_all (exceeded_by key) xs ≡ ltb (greatest_number key.name xs) key.k
exceeds_by key [] h = let e : ltb 0 key.k ≡ true = grind (arith, nat_tests) in sym e
exceeds_by key (x ∷ xs) h = ap (λ b. exceeded_by key x && b) (exceeds_by key xs h) ∙ below_both (eqb x.key.name key.name) x.key.k (greatest_number key.name xs) key.k

-- ---- where an instance stands

pub same_key_is : (a b : Key) → same_key a b ≡ true → a ≡ b
same_key_is a b h =
    let p = and_parts (eqb a.k b.k) (eqb a.name b.name) h in
    let k = (Decides-eqb a.k b.k).0 p.0 in
    let n = (Decides-eqb a.name b.name).0 p.1 in
    λ i. record { name = n i; k = k i }

refuted : (b : Bool) → (b ≡ true → ⊥) → b ≡ false
refuted true h = absurd (h refl)
refuted false h = refl

pub stands_at : (xs : List Held) (key : Key) (i : ℕ) (x : Held) → AreDistinct xs → slice_get xs i ≡ Some x → same_key x.key key ≡ true → position (is_of key) xs ≡ Some i
stands_at xs key i x apart g h =
    let within = slice_get_within xs i x g in
    let here : is_of key (get_or xs i x) ≡ true = ap (is_of key) (get_or_from_slice_get xs i x x g) ∙ h in
    let e : position_or_len (is_of key) xs ≡ i = position_or_len_is (is_of key) xs i x (omega (arith, within)) (λ k l.
    refuted (is_of key (get_or xs k x)) (λ t.
    apart k i (get_or xs k x) x l (slice_get-get_or xs k x (omega (arith, l, within))) g
    (same_key_is (get_or xs k x).key key t ∙ sym (same_key_is x.key key h)))) (λ w. here) in
    let t : ltb i (length xs) ≡ true = grind (arith, nat_tests) in
    ap (λ n. cond (ltb n (length xs)) (Some n) None) e ∙ ap (λ b. cond b (Some i) None) t

pub distinct_push : (xs : List Held) (y : Held) → AreDistinct xs → list_all (exceeded_by y.key) xs ≡ true → AreDistinct (xs ++ y ∷ [])
distinct_push xs y apart above j k a b l g h =
    ⊎_elim
    (λ q. ⊎_elim (λ p. apart j k a b l p q) (λ p. absurd (let w = slice_get_within xs k b q in omega (arith, p.0, l, w))) (get_push xs y j a g))
    (λ q. ⊎_elim
    (λ p. λ e. exceeded xs j a p above (e ∙ ap (λ (w : Held). w.key) q.1))
    (λ p. absurd (omega (arith, p.0, q.0, l)))
    (get_push xs y j a g))
    (get_push xs y k b h)
  where
    exceeded : (zs : List Held) (j : ℕ) (a : Held) → slice_get zs j ≡ Some a → list_all (exceeded_by y.key) zs ≡ true → a.key ≡ y.key → ⊥
    exceeded [] j a p t e = none-some a p
    exceeded (z ∷ zs) zero a p t e =
        let here = (and_parts (exceeded_by y.key z) (list_all (exceeded_by y.key) zs) t).0 in
        let same : z.key ≡ y.key = ap (λ (w : Held). w.key) (same_Some z a p) ∙ e in
        let name : eqb z.key.name y.key.name ≡ true = (Decides-eqb z.key.name y.key.name).1 (ap (λ (x : Key). x.name) same) in
        let k : z.key.k ≡ y.key.k = ap (λ (x : Key). x.k) same in
        let less : ltb z.key.k y.key.k ≡ true = sym (ap (λ b. not b || ltb z.key.k y.key.k) name) ∙ here in
        let lt : z.key.k < y.key.k = grind (arith, nat_tests) in
        omega (arith, k, lt)
    exceeded (z ∷ zs) (suc j) a p t e = exceeded zs j a p (and_parts (exceeded_by y.key z) (list_all (exceeded_by y.key) zs) t).1 e

pub distinct_set : (xs : List Held) (i : ℕ) (x y : Held) → slice_get xs i ≡ Some x → y.key ≡ x.key → AreDistinct xs → AreDistinct (set xs i y)
distinct_set xs i x y at e apart j k a b l g h =
    ⊎_elim
    (λ p. ⊎_elim
    (λ q. absurd (omega (arith, p.0, q.0, l)))
    (λ q. λ t. apart j k x b l (subst (λ (n : ℕ). slice_get xs n ≡ Some x) (sym p.0) at) q.1 (sym e ∙ ap (λ (w : Held). w.key) (sym p.1) ∙ t))
    (get_set xs i y k b h))
    (λ p. ⊎_elim
    (λ q. λ t. apart j k a x l p.1 (subst (λ (n : ℕ). slice_get xs n ≡ Some x) (sym q.0) at) (t ∙ ap (λ (w : Held). w.key) q.1 ∙ e))
    (λ q. apart j k a b l p.1 q.1)
    (get_set xs i y k b h))
    (get_set xs i y j a g)

-- ---- who lives at which addresses

none_share : (f : Held → Bool) (xs : List Held) → ((k : ℕ) (x : Held) → slice_get xs k ≡ Some x → f x ≡ false) → list_any f xs ≡ false
none_share f [] h = refl
none_share f (x ∷ xs) h = ap (λ b. b || list_any f xs) (h 0 x refl) ∙ none_share f xs (λ k y g. h (suc k) y g)

one_shares : (f : Held → Bool) (xs : List Held) (k : ℕ) (x : Held) → slice_get xs k ≡ Some x → f x ≡ true → list_any f xs ≡ true
one_shares f [] k x g h = absurd (none-some x g)
one_shares f (z ∷ zs) zero x g h = ap (λ b. b || list_any f zs) (ap f (same_Some z x g) ∙ h)
one_shares f (z ∷ zs) (suc k) x g h = ap (λ b. f z || b) (one_shares f zs k x g h) ∙ or_true (f z)
  where
    or_true : (b : Bool) → (b || true) ≡ true
    or_true true = refl
    or_true false = refl

all_pass : (f : Held → Bool) (xs : List Held) → list_any f xs ≡ false → (k : ℕ) (x : Held) → slice_get xs k ≡ Some x → f x ≡ false
all_pass f xs h k x g = refuted (f x) (λ t. false≢true (sym h ∙ one_shares f xs k x g t))

share_parts : (base size : ℕ) (x : Held) → shares_bytes base size x ≡ true → (x.live ≡ true) × (x.base < base + size) × (base < x.base + x.size)
share_parts base size x h =
    let p = and_parts x.live (ltb x.base (base + size) && ltb base (x.base + x.size)) h in
    let q = and_parts (ltb x.base (base + size)) (ltb base (x.base + x.size)) p.1 in
    let a = q.0 in
    let b = q.1 in
    (p.0, grind (arith, nat_tests), grind (arith, nat_tests))

share_from : (base size : ℕ) (x : Held) → x.live ≡ true → x.base < base + size → base < x.base + x.size → shares_bytes base size x ≡ true
share_from base size x l a b =
    and_from x.live (ltb x.base (base + size) && ltb base (x.base + x.size)) l
    (and_from (ltb x.base (base + size)) (ltb base (x.base + x.size)) (grind (arith, nat_tests)) (grind (arith, nat_tests)))

-- nothing lives below the end
pub none_overlaps : (xs : List Held) (es : List (ℕ × ℕ)) (base size : ℕ) → AreLiving xs es → ((q : ℕ) → q < base + size → said_at es q ≡ None) → false ≡ list_any (shares_bytes base size) xs
none_overlaps xs es base size a none = sym (none_share (shares_bytes base size) xs (λ k x g. refuted (shares_bytes base size x) (λ t.
    let p = share_parts base size x t in
    none-some (x.base + x.size) (sym (none x.base p.1) ∙ a.there k x g p.0))))

-- of those that begin below the end the one of greatest base is the only one that may overlap
pub last_overlaps : (xs : List Held) (es : List (ℕ × ℕ)) (base size b e : ℕ) → AreLiving xs es → said_at es b ≡ Some e → b < base + size
    → ((q : ℕ) → q < base + size → IsSome (said_at es q) → q ≤ b) → ltb base e ≡ list_any (shares_bytes base size) xs
last_overlaps xs es base size b e a at low great = by (ltb base e) refl
  where
    by : (t : Bool) → ltb base e ≡ t → t ≡ list_any (shares_bytes base size) xs
    by true t =
        let s = a.only b e at in
        let x = s.inst in
        let bb = s.base in
        let ee = s.end in
        sym (one_shares (shares_bytes base size) xs s.place x s.is (share_from base size x s.live (omega (arith, bb, low)) (let l : base < e = grind (arith, nat_tests) in omega (arith, ee, l))))
    by false t =
        let s = a.only b e at in
        let x = s.inst in
        let bb = s.base in
        let ee = s.end in
        let above : e ≤ base = grind (arith, nat_tests) in
        sym (none_share (shares_bytes base size) xs (λ k y g. refuted (shares_bytes base size y) (λ h.
        let p = share_parts base size y h in
        let known = a.there k y g p.0 in
        let near : y.base ≤ b = great y.base p.1 (subst (λ (o : Option ℕ). IsSome o) (sym known) refl) in
        let size_x = a.some s.place x s.is in
        let lowy = p.1 in
        let highy = p.2 in
        ⊎_elim
        (λ same. let q : y ≡ x = same_Some y x (sym g ∙ ap (slice_get xs) same ∙ s.is) in
        let z : y.base + y.size ≡ x.base + x.size = ap (λ (w : Held). w.base + w.size) q in omega (arith, z, ee, above, highy))
        (λ other. ⊎_elim
        (λ u. omega (arith, u, bb, ee, above, highy, size_x))
        (λ u. omega (arith, u, ee, bb, near, size_x))
        (a.apart k s.place y x other g s.is p.0 s.live))
        (same_or_other k s.place))))
      where
        same_or_other : (m n : ℕ) → (m ≡ n) ⊎ (m ≡ n → ⊥)
        same_or_other m n = cases_eq m n

-- ---- what the entries say where one is added, or taken away

at_eq : (b a : ℕ) → is_at (nat_cmp b) a ≡ true → b ≡ a
at_eq b a h = grind (arith, nat_tests)

at_ne : (b a : ℕ) → is_at (nat_cmp b) a ≡ false → b ≡ a → ⊥
at_ne b a h e = false≢true (sym h ∙ ap (λ q. is_at (nat_cmp b) q) (sym e) ∙ (eq_by_cmp_equiv nat_cmp_total).refl b)

at_other : (b a : ℕ) → (b ≡ a → ⊥) → is_at (nat_cmp b) a ≡ false
at_other b a n = refuted (is_at (nat_cmp b) a) (λ h. n (at_eq b a h))

apart_of : (base size : ℕ) (x : Held) → x.live ≡ true → shares_bytes base size x ≡ false → (x.base + x.size ≤ base) ⊎ (base + size ≤ x.base)
apart_of base size x l h =
    ⊎_elim
    (λ a. ⊎_elim (λ b. absurd (false≢true (sym h ∙ share_from base size x l a b))) (λ b. inl (omega (arith, b))) (cases_lt base (x.base + x.size)))
    (λ a. inr (omega (arith, a)))
    (cases_lt x.base (base + size))

other_base : (base size : ℕ) (x : Held) → 1 ≤ size → 1 ≤ x.size → (x.base + x.size ≤ base) ⊎ (base + size ≤ x.base) → base ≡ x.base → ⊥
other_base base size x s t d e = ⊎_elim (λ l. omega (arith, l, t, e)) (λ l. omega (arith, l, s, e)) d

pub living_push : (xs : List Held) (es fs : List (ℕ × ℕ)) (y : Held) → AreLiving xs es → y.live ≡ true → 1 ≤ y.size → list_any (shares_bytes y.base y.size) xs ≡ false
    → ((q : ℕ) → said_at fs q ≡ cond (is_at (nat_cmp y.base) q) (Some (y.base + y.size)) (said_at es q)) → AreLiving (xs ++ y ∷ []) fs
living_push xs es fs y a lives some free put =
    let far : (k : ℕ) (x : Held) → slice_get xs k ≡ Some x → x.live ≡ true → (x.base + x.size ≤ y.base) ⊎ (y.base + y.size ≤ x.base) =
    λ k x g l. apart_of y.base y.size x l (all_pass (shares_bytes y.base y.size) xs free k x g) in
    record {
      there = λ k x g l. ⊎_elim
          (λ old.
          let other = at_other y.base x.base (other_base y.base y.size x some (a.some k x old) (far k x old l)) in
          put x.base ∙ ap (λ b. cond b (Some (y.base + y.size)) (said_at es x.base)) other ∙ a.there k x old l)
          (λ new.
          let same : y.base ≡ x.base = ap (λ (w : Held). w.base) (sym new.1) in
          put x.base ∙ ap (λ b. cond b (Some (y.base + y.size)) (said_at es x.base)) (ap (is_at (nat_cmp y.base)) (sym same) ∙ (eq_by_cmp_equiv nat_cmp_total).refl y.base)
          ∙ ap (λ (w : Held). Some (w.base + w.size)) (sym new.1))
          (get_push xs y k x g);
      only = λ b e h. by b e (is_at (nat_cmp y.base) b) refl (sym (put b) ∙ h);
      some = λ k x g. ⊎_elim (λ old. a.some k x old) (λ new. subst (λ (w : Held). 1 ≤ w.size) (sym new.1) some) (get_push xs y k x g);
      apart = λ j k x z n g h l m. ⊎_elim
          (λ old. ⊎_elim
          (λ older. a.apart j k x z n old older l m)
          (λ new. subst (λ (w : Held). (x.base + x.size ≤ w.base) ⊎ (w.base + w.size ≤ x.base)) (sym new.1) (far j x old l))
          (get_push xs y k z h))
          (λ new. ⊎_elim
          (λ older. subst (λ (w : Held). (w.base + w.size ≤ z.base) ⊎ (z.base + z.size ≤ w.base)) (sym new.1) (turned (far k z older m)))
          (λ newer. absurd (n (new.0 ∙ sym newer.0)))
          (get_push xs y k z h))
          (get_push xs y j x g);
    }
  where
    turned : {A B : Type 0} → A ⊎ B → B ⊎ A
    turned (inl p) = inr p
    turned (inr p) = inl p

    by : (b e : ℕ) (t : Bool) → is_at (nat_cmp y.base) b ≡ t → cond (is_at (nat_cmp y.base) b) (Some (y.base + y.size)) (said_at es b) ≡ Some e → Stands (xs ++ y ∷ []) b e
    by b e true t h =
        let end : y.base + y.size ≡ e = same_Some (y.base + y.size) e (sym (ap (λ c. cond c (Some (y.base + y.size)) (said_at es b)) t) ∙ h) in
        record { place = length xs; inst = y; is = get_last xs y; live = lives; base = at_eq y.base b t; end = end }
    by b e false t h =
        let s = a.only b e (sym (ap (λ c. cond c (Some (y.base + y.size)) (said_at es b)) t) ∙ h) in
        record { place = s.place; inst = s.inst; is = get_before xs y s.place s.inst s.is; live = s.live; base = s.base; end = s.end }

-- an instance of which neither its place nor whether it lives changed
pub living_kept : (xs : List Held) (es : List (ℕ × ℕ)) (i : ℕ) (x y : Held) → AreLiving xs es → slice_get xs i ≡ Some x → y.live ≡ x.live → y.base ≡ x.base → y.size ≡ x.size → AreLiving (set xs i y) es
living_kept xs es i x y a at lives base size =
    let as_old : (k : ℕ) (z : Held) → slice_get (set xs i y) k ≡ Some z → (w : Held) × (slice_get xs k ≡ Some w) × (z.live ≡ w.live) × (z.base ≡ w.base) × (z.size ≡ w.size) =
    λ k z g. ⊎_elim
    (λ p. (x, subst (λ (n : ℕ). slice_get xs n ≡ Some x) (sym p.0) at, ap (λ (w : Held). w.live) p.1 ∙ lives, ap (λ (w : Held). w.base) p.1 ∙ base, ap (λ (w : Held). w.size) p.1 ∙ size))
    (λ p. (z, p.1, refl, refl, refl))
    (get_set xs i y k z g) in
    record {
      there = λ k z g l. let o = as_old k z g in
          ap (said_at es) o.3 ∙ a.there k o.0 o.1 (sym o.2 ∙ l) ∙ (λ j. Some (sym o.3 j + sym o.4 j));
      only = λ b e h. by b e (a.only b e h) (cases_eq (a.only b e h).place i);
      some = λ k z g. let o = as_old k z g in let s = a.some k o.0 o.1 in let q = o.4 in omega (arith, s, q);
      apart = λ j k z w n g h l m.
          let o = as_old j z g in
          let p = as_old k w h in
          let ob = o.3 in
          let os = o.4 in
          let pb = p.3 in
          let ps = p.4 in
          ⊎_elim (λ u. inl (omega (arith, u, ob, os, pb, ps))) (λ u. inr (omega (arith, u, ob, os, pb, ps))) (a.apart j k o.0 p.0 n o.1 p.1 (sym o.2 ∙ l) (sym p.2 ∙ m));
    }
  where
    by : (b e : ℕ) (s : Stands xs b e) → (s.place ≡ i) ⊎ (s.place ≡ i → ⊥) → Stands (set xs i y) b e
    by b e s (inl p) =
        let same : s.inst ≡ x = same_Some s.inst x (sym s.is ∙ ap (slice_get xs) p ∙ at) in
        let sb = s.base in
        let se = s.end in
        let xb : s.inst.base ≡ x.base = ap (λ (w : Held). w.base) same in
        let xs_ : s.inst.size ≡ x.size = ap (λ (w : Held). w.size) same in
        record { place = i; inst = y; is = set_here xs i y x at; live = lives ∙ ap (λ (w : Held). w.live) (sym same) ∙ s.live; base = base ∙ sym xb ∙ sb; end = omega (arith, base, size, xb, xs_, se) }
    by b e s (inr n) = record { place = s.place; inst = s.inst; is = set_other xs i y s.place s.inst n s.is; live = s.live; base = s.base; end = s.end }

-- an instance that ends
pub living_over : (xs : List Held) (es fs : List (ℕ × ℕ)) (i : ℕ) (x y : Held) → AreLiving xs es → slice_get xs i ≡ Some x → x.live ≡ true → y.live ≡ false → y.size ≡ x.size
    → ((q : ℕ) → said_at fs q ≡ cond (is_at (nat_cmp x.base) q) None (said_at es q)) → AreLiving (set xs i y) fs
living_over xs es fs i x y a at lives over size gone =
    let as_old : (k : ℕ) (z : Held) → slice_get (set xs i y) k ≡ Some z → z.live ≡ true → (k ≡ i → ⊥) × (slice_get xs k ≡ Some z) =
    λ k z g l. ⊎_elim (λ p. absurd (false≢true (sym over ∙ ap (λ (w : Held). w.live) (sym p.1) ∙ l))) (λ p. p) (get_set xs i y k z g) in
    record {
      there = λ k z g l.
          let o = as_old k z g l in
          let far = a.apart k i z x o.0 o.1 at l lives in
          let other = at_other x.base z.base (other_base x.base x.size z (a.some i x at) (a.some k z o.1) far) in
          gone z.base ∙ ap (λ b. cond b None (said_at es z.base)) other ∙ a.there k z o.1 l;
      only = λ b e h. by b e (is_at (nat_cmp x.base) b) refl (sym (gone b) ∙ h);
      some = λ k z g. ⊎_elim
          (λ p. let s = a.some i x at in let q : z.size ≡ x.size = ap (λ (w : Held). w.size) p.1 ∙ size in omega (arith, s, q))
          (λ p. a.some k z p.1)
          (get_set xs i y k z g);
      apart = λ j k z w n g h l m. a.apart j k z w n (as_old j z g l).1 (as_old k w h m).1 l m;
    }
  where
    by : (b e : ℕ) (t : Bool) → is_at (nat_cmp x.base) b ≡ t → cond (is_at (nat_cmp x.base) b) None (said_at es b) ≡ Some e → Stands (set xs i y) b e
    by b e true t h = absurd (none-some e (sym (ap (λ c. cond c None (said_at es b)) t) ∙ h))
    by b e false t h =
        let s = a.only b e (sym (ap (λ c. cond c None (said_at es b)) t) ∙ h) in
        let other : s.place ≡ i → ⊥ = λ p.
        at_ne x.base b t (ap (λ (w : Held). w.base) (sym (same_Some s.inst x (sym s.is ∙ ap (slice_get xs) p ∙ at))) ∙ s.base) in
        record { place = s.place; inst = s.inst; is = set_other xs i y s.place s.inst other s.is; live = s.live; base = s.base; end = s.end }
