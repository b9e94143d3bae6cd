-- Steps of loops that add texts, and of one that compares.
use Rattle.std.proofs.Common.{◌≡◌, ℕ, suc, ◌+◌, ◌<◌, ◌≤◌, List, ◌++◌, length, min, drop, get_or, sym, ap, ◌∙◌, append_assoc, drop-cons, arith, nat_eq}
use Rattle.std.specs.List.{flat_map, common_prefix_len}
use Rattle.std.proofs.Math.ListN.{drop_of_length-le}
use Rattle.std.proofs.lemmas.List.{length-drop, append-nil}
use Rattle.std.proofs.lemmas.List.Sums.{common_prefix_len-le}

first_left : {X : Type 0} (f : X → List ℕ) (xs : List X) (i : ℕ) (x : X) → i < length xs → x ≡ get_or xs i x → flat_map f (drop i xs) ≡ f x ++ flat_map f (drop (i + 1) xs)
first_left f xs i x lt at =
    let e : suc i ≡ i + 1 = omega arith in
    ap (flat_map f) (drop-cons xs i x lt) ∙ ap (λ y. f y ++ flat_map f (drop (suc i) xs)) (sym at) ∙ ap (λ k. f x ++ flat_map f (drop k xs)) e

-- the text of one more, and then of those that are left
pub one_more : {X : Type 0} (f : X → List ℕ) (xs : List X) (i : ℕ) (x : X) (text new all : List ℕ) → i < length xs → x ≡ get_or xs i x → new ≡ text ++ f x
    → text ++ flat_map f (drop i xs) ≡ all → new ++ flat_map f (drop (i + 1) xs) ≡ all
one_more f xs i x text new all lt at is rest =
    ap (λ t. t ++ flat_map f (drop (i + 1) xs)) is ∙ append_assoc text (f x) (flat_map f (drop (i + 1) xs))
    ∙ ap (λ ys. text ++ ys) (sym (first_left f xs i x lt at)) ∙ rest

-- where the shorter of two texts ends, nothing more is common
pub shorter_ended : (xs ys : List ℕ) (at n : ℕ) → at ≡ min (length xs) (length ys) → at + common_prefix_len nat_eq (drop at xs) (drop at ys) ≡ n → at ≡ n
shorter_ended xs ys at n end same =
    let common = common_prefix_len-le nat_eq (drop at xs) (drop at ys) in
    omega (arith, common.0, common.1, length-drop at xs, length-drop at ys)

-- behind the last one nothing is left
pub all_told : {X : Type 0} (f : X → List ℕ) (xs : List X) (i : ℕ) (text all : List ℕ) → length xs ≤ i → text ++ flat_map f (drop i xs) ≡ all → text ≡ all
all_told f xs i text all end rest = sym (append-nil text) ∙ ap (λ ys. text ++ flat_map f ys) (sym (drop_of_length-le xs end)) ∙ rest
