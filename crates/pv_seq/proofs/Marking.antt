-- Marks that are made, taken away, and found.
use Rattle.std.proofs.Common.{◌≡◌, ◌≤◌, ◌<◌, ◌+◌, ℕ, Bool, true, false, cond, Option, Some, None, is_some, refl, ap, ◌∙◌, arith, inl, inr}
use Rattle.std.specs.Ordering.{nat_cmp, ordering_then, is_eq, is_gt}
use Rattle.std.specs.declared.cmp.Ordering.{Ordering}
use Rattle.std.specs.declared.cmp.Ordering.TheVariants.{Less, Equal, Greater}
use Rattle.std.specs.declared.ops.Bound.TheVariants.{Included, Excluded}
use Rattle.std.specs.BTreeMap.Range.{IsInRange}
use Rattle.std.specs.BTreeSet.{BTreeSet, Updates, IsKeyRangeOf}
use Rattle.std.proofs.lemmas.Cmp.{ranked}
use Rattle.std.proofs.lemmas.Bool.{cases_eq, true≢false}
use Rattle.pv_seq.specs.Marks.{mark_cmp, is_marked_at, AllMarked, NoneMarked, KeepsMarks}

number_is : (x y : ℕ) (r : Ordering) → r ≡ nat_cmp x y → y < x → r ≡ Greater
number_is x y Less e lt = absurd (omega (arith, lt, ranked x y Less e))
number_is x y Equal e lt = absurd (omega (arith, lt, ranked x y Equal e))
number_is x y Greater e lt = refl

number_is_less : (x y : ℕ) (r : Ordering) → r ≡ nat_cmp x y → x < y → r ≡ Less
number_is_less x y Less e lt = refl
number_is_less x y Equal e lt = absurd (omega (arith, lt, ranked x y Equal e))
number_is_less x y Greater e lt = absurd (omega (arith, lt, ranked x y Greater e))

number_is_same : (x y : ℕ) (r : Ordering) → r ≡ nat_cmp x y → x ≡ y → r ≡ Equal
number_is_same x y Less e s = absurd (omega (arith, s, ranked x y Less e))
number_is_same x y Equal e s = refl
number_is_same x y Greater e s = absurd (omega (arith, s, ranked x y Greater e))

number_not_more : (x y : ℕ) (r : Ordering) → r ≡ nat_cmp x y → x ≤ y → is_gt r ≡ false
number_not_more x y Less e le = refl
number_not_more x y Equal e le = refl
number_not_more x y Greater e le = absurd (omega (arith, le, ranked x y Greater e))

-- ---- made

kept : (x y b : Bool) → y ≡ cond b true x → x ≡ true → y ≡ true
kept x y true e h = e
kept x y false e h = e ∙ h

pub mark_kept : (s t : BTreeSet (ℕ × ℕ)) (p n : ℕ) → Updates mark_cmp s t (p, n) true → KeepsMarks s t
mark_kept s t p n u = λ byte number h. kept (is_marked_at s byte number) (is_marked_at t byte number) (is_eq (mark_cmp (p, n) (byte, number))) (u.0 (byte, number)) h

pub marks_unchanged : (s t : BTreeSet (ℕ × ℕ)) → t.keys ≡ s.keys → KeepsMarks s t
marks_unchanged s t e = λ byte number h. ap (λ ks. Rattle.std.specs.List.list_any (λ k. is_eq (mark_cmp (byte, number) k)) ks) e ∙ h

pub marked_more : (s t : BTreeSet (ℕ × ℕ)) (p n i : ℕ) → Updates mark_cmp s t (p + i, n) true → AllMarked s p i n → AllMarked t p (i + 1) n
marked_more s t p n i u h = λ j lt. elim (cases_eq j i) [
  | inl e ↦ ap (λ k. is_marked_at t (p + k) n) e ∙ u.1
  | inr other ↦ mark_kept s t (p + i) n u (p + j) n (h j (omega (arith, lt, other)))
]

-- ---- taken away

apart : (o r : Ordering) → r ≡ Greater → is_eq (ordering_then o r) ≡ false
apart Less r e = refl
apart Equal r e = ap is_eq e
apart Greater r e = refl

pub unmark_kept : (s t : BTreeSet (ℕ × ℕ)) (p n : ℕ) → Updates mark_cmp s t (p, n) false → (byte k : ℕ) → k < n → is_marked_at t byte k ≡ is_marked_at s byte k
unmark_kept s t p n u byte k lt = u.2 (byte, k) (apart (nat_cmp p byte) (nat_cmp n k) (number_is n k (nat_cmp n k) refl lt))

-- ---- found

tied : (o r : Ordering) → o ≡ Equal → ordering_then o r ≡ r
tied o r e = ap (λ x. ordering_then x r) e

pub within : (byte start end n : ℕ) → start ≤ n → n < end → IsInRange mark_cmp (Included (byte, start)) (Excluded (byte, end)) (byte, n)
within byte start end n le lt =
    let same = number_is_same byte byte (nat_cmp byte byte) refl refl in (
      ap is_gt (tied (nat_cmp byte byte) (nat_cmp start n) same) ∙ number_not_more start n (nat_cmp start n) refl le,
      tied (nat_cmp byte byte) (nat_cmp n end) same ∙ number_is_less n end (nat_cmp n end) refl lt,
    )

pub none_is : {A : Type 0} → (r : Option A) → is_some r ≡ false → r ≡ None
none_is None e = refl
none_is (Some x) e = absurd (true≢false e)

pub none_marked_more : (s : BTreeSet (ℕ × ℕ)) (place length start end : ℕ) → NoneMarked s place length start end → ((n : ℕ) → start ≤ n → n < end → is_marked_at s (place + length) n ≡ false) → NoneMarked s place (length + 1) start end
none_marked_more s place length start end h g = λ i n lt le before. elim (cases_eq i length) [
  | inl e ↦ ap (λ k. is_marked_at s (place + k) n) e ∙ g n le before
  | inr other ↦ h i n (omega (arith, lt, other)) le before
]
