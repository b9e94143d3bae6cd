-- An integer finds all that fit its address: live instances share no byte, so one reaches it from before at most, and one begins there.
use Rattle.std.proofs.Common.{◌≡◌, ℕ, ◌+◌, ◌-◌, ◌<◌, ◌≤◌, Bool, true, false, ◌&&◌, cond, ltb, leb, List, length, get_or, Option, Some, None, refl, sym, ap, ◌∙◌, subst, ◌⊎◌, inl, inr, ⊎_elim, arith, All, AllPairs, position}
use Rattle.std.specs.List.{position_or_len}
use Rattle.std.specs.Option.{option_map}
use Rattle.std.proofs.lemmas.Bool.{cases_lt, false≢true}
use Rattle.std.proofs.lemmas.Bool.Decides.{nat_tests}
use Rattle.std.proofs.lemmas.Option.{none-some}
use Rattle.std.proofs.lemmas.List.Sums.{position_or_len_is}
use Rattle.std.proofs.lemmas.List.Quantifiers.{position-Some}
use Rattle.pv_prov.specs.declared.names.Stands.{Stands}
use Rattle.pv_inst.specs.declared.values.Instance.{Instance}
use Rattle.pv_inst.specs.Finding.{reaches, begins, number_of, both_found, fitting}
use Rattle.pv_inst.specs.Kept.{fits, AreAll}
use Rattle.pv_inst.specs.WellFormed.{Apart, Disjoint, IsPlaced}
use Rattle.pv_inst.proofs.Rows.{IsRow, row_found}

pub and_left : (a b : Bool) → (a && b) ≡ true → a ≡ true
and_left true b h = refl
and_left false b h = absurd (false≢true h)

pub and_right : (a b : Bool) → (a && b) ≡ true → b ≡ true
and_right true b h = h
and_right false b h = absurd (false≢true h)

pub both : (a b : Bool) → a ≡ true → b ≡ true → (a && b) ≡ true
both true b h k = k
both false b h k = absurd (false≢true h)

pub refuted : (b : Bool) → (b ≡ true → ⊥) → b ≡ false
refuted true h = absurd (h refl)
refuted false h = refl

-- the first that passes is found
pub first_found : (p : Instance → Bool) (xs : List Instance) (i : ℕ) (d : Instance) → i < length xs → p (get_or xs i d) ≡ true → ((k : ℕ) → k < i → p (get_or xs k d) ≡ false) → number_of p xs ≡ Some (i + 1)
first_found p xs i d within passes fails =
    let at : position_or_len p xs ≡ i = position_or_len_is p xs i d (omega (arith, within)) fails (λ h. passes) in
    let low : ltb i (length xs) ≡ true = grind (arith, nat_tests) in
    ap (λ n. option_map (λ j. j + 1) (cond (ltb n (length xs)) (Some n) None)) at ∙ ap (λ b. option_map (λ j. j + 1) (cond b (Some i) None)) low

pub reach_of : (a : ℕ) (x : Instance) → reaches a x ≡ true → (x.base < a) × (a ≤ x.base + x.size)
reach_of a x h =
    let tests = and_right x.exposed _ (and_right x.live _ h) in
    (let t = and_left (ltb x.base a) _ tests in grind (arith, nat_tests), let t = and_right (ltb x.base a) _ tests in grind (arith, nat_tests))

begin_of : (a : ℕ) (x : Instance) → begins a x ≡ true → x.base ≡ a
begin_of a x h = let t = and_right x.exposed _ (and_right x.live _ h) in grind (arith, nat_tests)

one_reaches : (a : ℕ) (x y : Instance) → reaches a x ≡ true → reaches a y ≡ true → Disjoint x y → ⊥
one_reaches a x y h k d =
    let r = reach_of a x h in
    let s = reach_of a y k in
    ⊎_elim (λ l. omega (arith, r.0, r.1, s.0, s.1)) (λ l. omega (arith, r.0, r.1, s.0, s.1)) d

one_begins : (a : ℕ) (x y : Instance) → begins a x ≡ true → begins a y ≡ true → IsPlaced x → IsPlaced y → Disjoint x y → ⊥
one_begins a x y h k p q d =
    let r = begin_of a x h in
    let s = begin_of a y k in
    ⊎_elim (λ l. omega (arith, p.some, q.some)) (λ l. omega (arith, p.some, q.some)) d

pub reaching_found : (xs : List Instance) (a i : ℕ) (x : Instance) → AllPairs Apart xs → IsRow xs i x → reaches a x ≡ true → number_of (reaches a) xs ≡ Some i
reaching_found xs a i x apart r h =
    let here : reaches a (get_or xs (i - 1) x) ≡ true = ap (reaches a) r.here ∙ h in
    let found = first_found (reaches a) xs (i - 1) x r.within here (λ k l. refuted (reaches a (get_or xs k x))
    (λ e. one_reaches a (get_or xs k x) (get_or xs (i - 1) x) e here (apart k (i - 1) x l r.within (and_left (get_or xs k x).live _ e) (and_left (get_or xs (i - 1) x).live _ here)))) in
    let same : i - 1 + 1 ≡ i = omega (arith, r.from_one) in
    found ∙ ap (λ n. Some n) same

pub beginning_found : (xs : List Instance) (a i : ℕ) (x : Instance) → All IsPlaced xs → AllPairs Apart xs → IsRow xs i x → begins a x ≡ true → number_of (begins a) xs ≡ Some i
beginning_found xs a i x placed apart r h =
    let here : begins a (get_or xs (i - 1) x) ≡ true = ap (begins a) r.here ∙ h in
    let found = first_found (begins a) xs (i - 1) x r.within here (λ k l. refuted (begins a (get_or xs k x))
    (λ e. one_begins a (get_or xs k x) (get_or xs (i - 1) x) e here (placed k x (omega (arith, r.within))) (placed (i - 1) x r.within)
    (apart k (i - 1) x l r.within (and_left (get_or xs k x).live _ e) (and_left (get_or xs (i - 1) x).live _ here)))) in
    let same : i - 1 + 1 ≡ i = omega (arith, r.from_one) in
    found ∙ ap (λ n. Some n) same

-- what is found passes
pub number_passes : (p : Instance → Bool) (xs : List Instance) (i : ℕ) (x : Instance) → IsRow xs i x → number_of p xs ≡ Some i → p x ≡ true
number_passes p xs i x r h = by (position p xs) refl h
  where
    by : (o : Option ℕ) → position p xs ≡ o → option_map (λ j. j + 1) o ≡ Some i → p x ≡ true
    by None e k = absurd (none-some i k)
    by (Some n) e k =
        let f = position-Some p xs n x e in
        let next : n + 1 ≡ i = cc in
        let at : i - 1 ≡ n = omega arith in
        ap p (sym r.here) ∙ ap (λ j. p (get_or xs j x)) at ∙ f.1

-- one that fits begins before the address, or there
fits_either : (a : ℕ) (x : Instance) → fits a x ≡ true → (reaches a x ≡ true) ⊎ (begins a x ≡ true)
fits_either a x h =
    let lives = and_left x.live _ h in
    let shown = and_left x.exposed _ (and_right x.live _ h) in
    let tests = and_right x.exposed _ (and_right x.live _ h) in
    let from : x.base ≤ a = let t = and_left (leb x.base a) _ tests in grind (arith, nat_tests) in
    let upto = and_right (leb x.base a) _ tests in
    ⊎_elim
    (λ l. inl (both x.live _ lives (both x.exposed _ shown (both (ltb x.base a) _ (grind (arith, nat_tests)) upto))))
    (λ l. inr (both x.live _ lives (both x.exposed _ shown (grind (arith, nat_tests)))))
    (cases_lt x.base a)

reaching_fits : (a : ℕ) (x : Instance) → reaches a x ≡ true → fits a x ≡ true
reaching_fits a x h =
    let r = reach_of a x h in
    let tests = and_right x.exposed _ (and_right x.live _ h) in
    let from : x.base ≤ a = omega (arith, r.0) in
    both x.live _ (and_left x.live _ h) (both x.exposed _ (and_left x.exposed _ (and_right x.live _ h)) (both (leb x.base a) _ (grind (arith, nat_tests)) (and_right (ltb x.base a) _ tests)))

beginning_fits : (a : ℕ) (x : Instance) → begins a x ≡ true → fits a x ≡ true
beginning_fits a x h =
    let e = begin_of a x h in
    let from : x.base ≤ a = omega arith in
    let upto : a ≤ x.base + x.size = omega arith in
    both x.live _ (and_left x.live _ h) (both x.exposed _ (and_left x.exposed _ (and_right x.live _ h)) (both (leb x.base a) (leb a (x.base + x.size)) (grind (arith, nat_tests)) (grind (arith, nat_tests))))

as_low : (o p : Option ℕ) (i : ℕ) → o ≡ Some i → ((both_found o p).low ≡ Some i) ⊎ ((both_found o p).high ≡ Some i)
as_low None p i h = absurd (none-some i h)
as_low (Some j) None i h = inl h
as_low (Some j) (Some k) i h = inl h

as_high : (o p : Option ℕ) (i : ℕ) → p ≡ Some i → ((both_found o p).low ≡ Some i) ⊎ ((both_found o p).high ≡ Some i)
as_high o None i h = absurd (none-some i h)
as_high None (Some k) i h = inl h
as_high (Some j) (Some k) i h = inr h

found_of : (o p : Option ℕ) (i : ℕ) → ((both_found o p).low ≡ Some i) ⊎ ((both_found o p).high ≡ Some i) → (o ≡ Some i) ⊎ (p ≡ Some i)
found_of None None i (inl h) = absurd (none-some i h)
found_of None None i (inr h) = absurd (none-some i h)
found_of None (Some k) i (inl h) = inr h
found_of None (Some k) i (inr h) = absurd (none-some i h)
found_of (Some j) None i (inl h) = inl h
found_of (Some j) None i (inr h) = absurd (none-some i h)
found_of (Some j) (Some k) i (inl h) = inl h
found_of (Some j) (Some k) i (inr h) = inr h

pub all_found : (xs : List Instance) (a : ℕ) → All IsPlaced xs → AllPairs Apart xs → AreAll xs a (fitting xs a)
all_found xs a placed apart = λ i x e.
    let r = row_found xs i x (sym e) in
    let o = number_of (reaches a) xs in
    let p = number_of (begins a) xs in (
      λ h. ⊎_elim (λ k. as_low o p i (reaching_found xs a i x apart r k)) (λ k. as_high o p i (beginning_found xs a i x placed apart r k)) (fits_either a x h),
      λ h. ⊎_elim (λ k. reaching_fits a x (number_passes (reaches a) xs i x r k)) (λ k. beginning_fits a x (number_passes (begins a) xs i x r k)) (found_of o p i h),
    )

low_and_high : (i : ℕ) (p : Option ℕ) → both_found (Some i) p ≡ record { low = Some i; high = p }
low_and_high i None = refl
low_and_high i (Some j) = refl

high_alone : (p : Option ℕ) → both_found None p ≡ record { low = p; high = None }
high_alone None = refl
high_alone (Some j) = refl

pub all_where_one_reaches : (xs : List Instance) (a i : ℕ) (p : Option ℕ) → All IsPlaced xs → AllPairs Apart xs → Some i ≡ number_of (reaches a) xs → p ≡ number_of (begins a) xs → AreAll xs a (record { low = Some i; high = p })
all_where_one_reaches xs a i p placed apart low high =
    let P : Option ℕ → Type 0 = λ o. AreAll xs a (both_found o (number_of (begins a) xs)) in
    let Q : Option ℕ → Type 0 = λ o. AreAll xs a (both_found (Some i) o) in
    let R : Stands → Type 0 = λ s. AreAll xs a s in
    subst R (low_and_high i p) (subst Q (sym high) (subst P (sym low) (all_found xs a placed apart)))

pub all_where_none_reaches : (xs : List Instance) (a : ℕ) (p : Option ℕ) → All IsPlaced xs → AllPairs Apart xs → None ≡ number_of (reaches a) xs → p ≡ number_of (begins a) xs → AreAll xs a (record { low = p; high = None })
all_where_none_reaches xs a p placed apart low high =
    let P : Option ℕ → Type 0 = λ o. AreAll xs a (both_found o (number_of (begins a) xs)) in
    let Q : Option ℕ → Type 0 = λ o. AreAll xs a (both_found None o) in
    let R : Stands → Type 0 = λ s. AreAll xs a s in
    subst R (high_alone p) (subst Q (sym high) (subst P (sym low) (all_found xs a placed apart)))
