-- How a loop over a table comes to `first_row` and `row_of`.
use Rattle.std.proofs.Common.{◌≡◌, ℕ, suc, ◌+◌, ◌<◌, true, false, cond, List, length, get_or, map, drop, Some, nat_eq, ap, sym, ◌∙◌, subst, add-one}
use Rattle.std.specs.List.{starts_with}
use Rattle.std.specs.Cmp.Lexicographic.{pointwise}
use Rattle.std.proofs.Math.Seq.{drop-cons}
use Rattle.pv_lex.specs.Tables.{first_row, row_of}

module _ {R A : Type 0} (view : R → List ℕ × A) (rows : List R) (text : List ℕ) where
  pub first_next : (i : ℕ) (d : R) → i < length rows → starts_with nat_eq text (view (get_or rows i d)).0 ≡ false → first_row (map view (drop i rows)) text ≡ first_row (map view (drop (i + 1) rows)) text
  first_next i d lt e = rw (add-one, drop-cons rows i d lt) (ap (λ t. cond t (Some (view (get_or rows i d))) (first_row (map view (drop (suc i) rows)) text)) e)

  pub first_here : (i : ℕ) (d : R) → i < length rows → starts_with nat_eq text (view (get_or rows i d)).0 ≡ true → first_row (map view (drop i rows)) text ≡ Some (view (get_or rows i d))
  first_here i d lt e = rw (drop-cons rows i d lt) (ap (λ t. cond t (Some (view (get_or rows i d))) (first_row (map view (drop (suc i) rows)) text)) e)

  pub row_next : (i : ℕ) (d : R) → i < length rows → pointwise nat_eq text (view (get_or rows i d)).0 ≡ false → row_of (map view (drop i rows)) text ≡ row_of (map view (drop (i + 1) rows)) text
  row_next i d lt e = rw (add-one, drop-cons rows i d lt) (ap (λ t. cond t (Some (view (get_or rows i d)).1) (row_of (map view (drop (suc i) rows)) text)) e)

  pub row_here : (i : ℕ) (d : R) → i < length rows → pointwise nat_eq text (view (get_or rows i d)).0 ≡ true → row_of (map view (drop i rows)) text ≡ Some (view (get_or rows i d)).1
  row_here i d lt e = rw (drop-cons rows i d lt) (ap (λ t. cond t (Some (view (get_or rows i d)).1) (row_of (map view (drop (suc i) rows)) text)) e)

  -- the same of a row that the code has read, and of what the loop keeps
  pub first_step : (i : ℕ) (r : R) → i < length rows → r ≡ get_or rows i r → starts_with nat_eq text (view r).0 ≡ false → first_row (map view rows) text ≡ first_row (map view (drop i rows)) text → first_row (map view rows) text ≡ first_row (map view (drop (i + 1) rows)) text
  first_step i r lt is e kept = kept ∙ first_next i r lt (subst (λ (y : R). starts_with nat_eq text (view y).0 ≡ false) is e)

  pub first_found : (i : ℕ) (r : R) → i < length rows → r ≡ get_or rows i r → starts_with nat_eq text (view r).0 ≡ true → first_row (map view rows) text ≡ first_row (map view (drop i rows)) text → first_row (map view rows) text ≡ Some (view r)
  first_found i r lt is e kept = kept ∙ first_here i r lt (subst (λ (y : R). starts_with nat_eq text (view y).0 ≡ true) is e) ∙ ap (λ (y : R). Some (view y)) (sym is)

  pub row_step : (i : ℕ) (r : R) → i < length rows → r ≡ get_or rows i r → pointwise nat_eq text (view r).0 ≡ false → row_of (map view rows) text ≡ row_of (map view (drop i rows)) text → row_of (map view rows) text ≡ row_of (map view (drop (i + 1) rows)) text
  row_step i r lt is e kept = kept ∙ row_next i r lt (subst (λ (y : R). pointwise nat_eq text (view y).0 ≡ false) is e)

  pub row_found : (i : ℕ) (r : R) → i < length rows → r ≡ get_or rows i r → pointwise nat_eq text (view r).0 ≡ true → row_of (map view rows) text ≡ row_of (map view (drop i rows)) text → row_of (map view rows) text ≡ Some (view r).1
  row_found i r lt is e kept = kept ∙ row_here i r lt (subst (λ (y : R). pointwise nat_eq text (view y).0 ≡ true) is e) ∙ ap (λ (y : R). Some (view y).1) (sym is)
