-- How a loop over the bytes of a spelling tells whether it stands at the front.
use Rattle.std.proofs.Common.{◌≡◌, ◌≤◌, ◌<◌, ◌+◌, ℕ, suc, Bool, true, false, List, [], ◌∷◌, length, get_or, drop, nat_eq, ap, sym, ◌∙◌, add-one}
use Rattle.std.specs.Prelude.{◌&&◌}
use Rattle.std.specs.List.{starts_with}
use Rattle.std.proofs.Math.Seq.{drop-cons}
use Rattle.std.proofs.lemmas.List.{drop_all}

module _ (text front : List ℕ) where
  -- whether what is left of a text begins with what is left of a spelling
  abbrev pub rest_begins : ℕ → Bool
  rest_begins n = starts_with nat_eq (drop n text) (drop n front)

  rest_is : (n d e : ℕ) → n < length text → n < length front → rest_begins n ≡ (nat_eq (get_or front n e) (get_or text n d) && rest_begins (n + 1))
  rest_is n d e lt lf =
      ap (λ (xs : List ℕ). starts_with nat_eq xs (drop n front)) (drop-cons text n d lt)
      ∙ ap (λ (ys : List ℕ). starts_with nat_eq (get_or text n d ∷ drop (suc n) text) ys) (drop-cons front n e lf)
      ∙ ap (λ (k : ℕ). nat_eq (get_or front n e) (get_or text n d) && rest_begins k) (sym (add-one n))

  pub begins_on : (n d e : ℕ) → n < length text → n < length front → nat_eq (get_or front n e) (get_or text n d) ≡ true → rest_begins n ≡ rest_begins (n + 1)
  begins_on n d e lt lf is = rest_is n d e lt lf ∙ ap (λ (s : Bool). s && rest_begins (n + 1)) is

  pub begins_not : (n d e : ℕ) → n < length text → n < length front → nat_eq (get_or front n e) (get_or text n d) ≡ false → rest_begins n ≡ false
  begins_not n d e lt lf is = rest_is n d e lt lf ∙ ap (λ (s : Bool). s && rest_begins (n + 1)) is

  pub begins_short : (n e : ℕ) → length text ≤ n → n < length front → rest_begins n ≡ false
  begins_short n e le lf = ap (λ (xs : List ℕ). starts_with nat_eq xs (drop n front)) (drop_all n text le) ∙ ap (starts_with nat_eq []) (drop-cons front n e lf)

  pub begins_end : (n : ℕ) → length front ≤ n → rest_begins n ≡ true
  begins_end n le = ap (starts_with nat_eq (drop n text)) (drop_all n front le)
