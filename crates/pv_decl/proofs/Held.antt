-- What a table that is filled from the last place back to the first has at a place.
use Rattle.std.proofs.Common.{◌≡◌, ◌≤◌, ◌<◌, ◌+◌, ◌-◌, ℕ, zero, suc, cond, List, [], ◌∷◌, ◌++◌, length, replicate, get_or, Option, None, refl, sym, ap, ◌∙◌, arith, inl, inr}
use Rattle.std.specs.Prelude.{nat_le, slice_index_or}
use Rattle.std.proofs.lemmas.Bool.{le-leb}
use Rattle.std.proofs.lemmas.Bool.Decides.{leb_tells}
use Rattle.std.proofs.lemmas.List.{get_or_push, get_or_append_left, get_or_past, length-append}
use Rattle.pv_expr_forms.proofs.Naming.{leb_not}
use Rattle.pv_decl.specs.NameTables.{entry_found}

module _ {A : Type 0} (last : ℕ) (found : List (Option A)) (p : ℕ) where
  pub filled_beyond : last ≤ p → entry_found last found p ≡ None
  filled_beyond h = rw (le-leb last p h) refl

  filled_at : p < last → entry_found last found p ≡ slice_index_or found (last - 1 - p) None
  filled_at h = rw (leb_not last p h) refl

  pub filled_before : p + length found < last → entry_found last found p ≡ None
  filled_before h = filled_at (omega arith) ∙ get_or_past found (last - 1 - p) None (omega arith)

  pub filled_new : (r : Option A) → suc (p + length found) ≡ last → entry_found last (found ++ (r ∷ [])) p ≡ r
  filled_new r h =
      let lt : p < last = omega arith in
      let there : length found ≡ last - 1 - p = omega arith in
      rw (leb_not last p lt) (get_or_push found r None (last - 1 - p) there)

  pub filled_old : (r : Option A) → p < last → last ≤ p + length found → entry_found last (found ++ (r ∷ [])) p ≡ entry_found last found p
  filled_old r lt h =
      let there : last - 1 - p < length found = omega arith in
      rw (leb_not last p lt) (get_or_append_left found (r ∷ []) None (last - 1 - p) there)

-- places of which nothing is known, behind those of which something may be
module _ {A : Type 0} where
  spare_read : (xs : List (Option A)) (k i : ℕ) → get_or (xs ++ replicate k None) i None ≡ get_or xs i None
  spare_read [] zero i = refl
  spare_read [] (suc k) zero = refl
  spare_read [] (suc k) (suc i) = spare_read [] k i
  spare_read (x ∷ xs) k zero = refl
  spare_read (x ∷ xs) k (suc i) = spare_read xs k i

  spare_count : (xs : List (Option A)) (k : ℕ) → length (xs ++ replicate k None) ≡ length xs + k
  spare_count [] zero = omega arith
  spare_count [] (suc k) = let h = spare_count [] k in omega (arith, h)
  spare_count (x ∷ xs) k = let h = spare_count xs k in omega (arith, h)

  filled_spare : (last : ℕ) (found : List (Option A)) (k p : ℕ) → entry_found last (found ++ replicate k None) p ≡ entry_found last found p
  filled_spare last found k p = ap (λ (o : Option A). cond (nat_le last p) None o) (spare_read found k (last - 1 - p))

  -- what is noted of a place before all those of which something is known
  module _ (last : ℕ) (old spare new : List (Option A)) (at : ℕ) (r : Option A) (before : at + length old < last)
      (fills : spare ≡ old ++ replicate (last - 1 - at - length old) None) (pushed : new ≡ spare ++ (r ∷ [])) where
    spare_last : suc (at + length spare) ≡ last
    spare_last = omega (arith, before, ap length fills, spare_count old (last - 1 - at - length old))

    pub noted_count : at + length new ≤ last
    noted_count = omega (arith, spare_last, ap length pushed, length-append spare (r ∷ []))

    pub noted_here : entry_found last new at ≡ r
    noted_here = ap (λ (l : List (Option A)). entry_found last l at) pushed ∙ filled_new last spare at r spare_last

    pub noted_behind : (p : ℕ) → at < p → entry_found last new p ≡ entry_found last old p
    noted_behind p h = elim (leb_tells last p) [
      | inl l ↦ filled_beyond last new p l.1 ∙ sym (filled_beyond last old p l.1)
      | inr l ↦
          ap (λ (xs : List (Option A)). entry_found last xs p) pushed
          ∙ filled_old last spare p r l.1 (omega (arith, h, spare_last))
          ∙ ap (λ (xs : List (Option A)). entry_found last xs p) fills
          ∙ filled_spare last old (last - 1 - at - length old) p
    ]
