-- Two texts are compared byte by byte.
use Rattle.std.proofs.Common.{◌≡◌, ℕ, ◌==◌, ◌&&◌, List, [], ◌∷◌, nat_eq, refl, ap}
use Rattle.std.specs.Cmp.Lexicographic.{pointwise}
use Rattle.pv_check.specs.Texts.{same_text}

pub pointwise_same : (a b : List ℕ) → pointwise nat_eq a b ≡ same_text a b
pointwise_same [] [] = refl
pointwise_same [] (y ∷ ys) = refl
pointwise_same (x ∷ xs) [] = refl
pointwise_same (x ∷ xs) (y ∷ ys) = ap (λ r. (x == y) && r) (pointwise_same xs ys)
