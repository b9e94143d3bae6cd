-- A text with too many marks has no reading.
use Rattle.std.proofs.Common.{◌≡◌, ℕ, ◌<◌, eqb, List, [], ◌∷◌, length, None, refl, arith}
use Rattle.std.specs.List.{slice_split, count_by}
use Rattle.std.proofs.lemmas.List.Splits.{length-slice_split}
use Rattle.pv_journal.specs.Reading.{id_of, id_in, ids_of, said_by, row_said}

long_id : (ws : List (List ℕ)) → 2 < length ws → id_of ws ≡ None
long_id [] h = refl
long_id (a ∷ []) h = refl
long_id (a ∷ b ∷ []) h = absurd (omega (arith, h))
long_id (a ∷ b ∷ c ∷ ws) h = refl

long_ids : (ws : List (List ℕ)) → 2 < length ws → ids_of ws ≡ None
long_ids [] h = refl
long_ids (a ∷ []) h = absurd (omega (arith, h))
long_ids (a ∷ b ∷ []) h = absurd (omega (arith, h))
long_ids (a ∷ b ∷ c ∷ ws) h = refl

long_line : (ws : List (List ℕ)) → 6 < length ws → said_by ws ≡ None
long_line [] h = refl
long_line (a ∷ []) h = refl
long_line (a ∷ b ∷ []) h = absurd (omega (arith, h))
long_line (a ∷ b ∷ c ∷ []) h = absurd (omega (arith, h))
long_line (a ∷ b ∷ c ∷ d ∷ []) h = refl
long_line (a ∷ b ∷ c ∷ d ∷ e ∷ []) h = absurd (omega (arith, h))
long_line (a ∷ b ∷ c ∷ d ∷ e ∷ f ∷ []) h = absurd (omega (arith, h))
long_line (a ∷ b ∷ c ∷ d ∷ e ∷ f ∷ g ∷ ws) h = refl

pub id_unread : (text : List ℕ) → 1 < count_by (λ b. eqb b 35) text → id_in text ≡ None
id_unread text h = let l = length-slice_split (λ b. eqb b 35) text in long_id (slice_split (λ b. eqb b 35) text) (omega (arith, h, l))

pub ids_unread : (text : List ℕ) → 1 < count_by (λ b. eqb b 44) text → ids_of (slice_split (λ b. eqb b 44) text) ≡ None
ids_unread text h = let l = length-slice_split (λ b. eqb b 44) text in long_ids (slice_split (λ b. eqb b 44) text) (omega (arith, h, l))

pub unread : (text : List ℕ) → 5 < count_by (λ b. eqb b 32) text → row_said text ≡ None
unread text h = let l = length-slice_split (λ b. eqb b 32) text in long_line (slice_split (λ b. eqb b 32) text) (omega (arith, h, l))
