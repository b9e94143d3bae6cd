-- The stores of an initializer, by their places.
use Rattle.std.proofs.Common.{◌≡◌, ℕ, ◌+◌, ◌<◌, ◌≤◌, List, [], ◌∷◌, ap, ◌∙◌, arith}
use Rattle.std.specs.Prelude.{drop, length, map, get_or}
use Rattle.std.proofs.lemmas.List.{drop_more, get_or-map, length-map}
use Rattle.std.proofs.Math.ListN.{drop_of_length-le}

pub mapped-at : {A B : Type 0} (f : A → B) (ys : List B) (xs : List A) (i : ℕ) (d : A) → ys ≡ map f xs → i < length ys → drop i ys ≡ f (get_or xs i d) ∷ drop (i + 1) ys
mapped-at f ys xs i d e lt =
    let lt' : i < length xs = omega (arith, lt, ap length e, length-map xs f) in
    drop_more ys i (f d) lt ∙ ap (λ z. z ∷ drop (i + 1) ys) (ap (λ zs. get_or zs i (f d)) e ∙ get_or-map f xs i d (f d) lt')

pub mapped-length : {A B : Type 0} (f : A → B) (ys : List B) (xs : List A) → ys ≡ map f xs → length ys ≡ length xs
mapped-length f ys xs e = ap length e ∙ length-map xs f

pub dropped-all : {A : Type 0} (xs : List A) (i : ℕ) → length xs ≤ i → drop i xs ≡ []
dropped-all xs i le = drop_of_length-le xs le
