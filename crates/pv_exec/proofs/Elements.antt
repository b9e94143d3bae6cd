-- Elements of lists of nodes.
use Rattle.std.proofs.Common.{◌≡◌, ℕ, ◌+◌, ◌<◌, ◌≤◌, List, [], ◌∷◌, sym, ap, ◌∙◌}
use Rattle.std.specs.Prelude.{drop, length, map, slice_index_or}
use Rattle.std.proofs.lemmas.List.{drop_more}
use Rattle.std.proofs.Math.ListN.{drop_of_length-le}
use Rattle.pv_tree.specs.declared.nodes.NodeId.{NodeId}

pub item-at : (xs ys : List NodeId) (i : ℕ) → xs ≡ ys → i < length xs → drop i ys ≡ slice_index_or xs i (record { 0 = 0 }) ∷ drop (i + 1) ys
item-at xs ys i e lt =
    ap (drop i) (sym e) ∙ drop_more xs i (record { 0 = 0 }) lt ∙ ap (λ (zs : List NodeId). slice_index_or xs i (record { 0 = 0 }) ∷ drop (i + 1) zs) e

pub items-end : (xs ys : List NodeId) (i : ℕ) → xs ≡ ys → length xs ≤ i → drop i ys ≡ []
items-end xs ys i e le = ap (drop i) (sym e) ∙ drop_of_length-le xs le

pub mapped-none : {A B : Type 0} (f : A → B) (ys : List B) (xs : List A) → ys ≡ map f xs → xs ≡ [] → ys ≡ []
mapped-none f ys xs e n = e ∙ ap (map f) n
