-- The types of parameters that prototypes of the library have.
use Rattle.std.proofs.Common.{◌≡◌, ℕ, true, IsTrue, ◌+◌, ◌<◌, ◌≤◌, List, [], ◌∷◌, ◌++◌, length, map, take, get_or, refl, sym, ◌∙◌, ap, arith}
use Rattle.std.proofs.lemmas.List.{map_push, take_all, take_more}
use Rattle.pv_types.specs.declared.terms.TypeId.{TypeId}
use Rattle.pv_types.specs.Adjusted.{is_adjusted}
use Rattle.pv_types.specs.Formed.{are_adjusted, AllBelow}
use Rattle.pv_types.specs.Ty.{Ty, VoidTy, MoreTys}
use Rattle.pv_types.specs.Known.{Known, tree, trees, tys_in}
use Rattle.pv_check.specs.Growing.{Grows}
use Rattle.pv_check.proofs.Growth.{both_true, same_grows, then_grows}
use Rattle.pv_unit.specs.declared.library_types.Simple.{Simple}
use Rattle.pv_unit.specs.declared.library_types.Simple.TheVariants as simple
use Rattle.pv_unit.specs.Prototypes.{simple_type, simple_types}

abbrev tree_of : Known → TypeId → Ty
tree_of m t = tree m t.0

-- so many of them are in the table
pub record Listed (old m : Known) (xs : List Simple) (k : ℕ) (list : List TypeId) : Type 0 where
  pub grows : Grows old m
  pub below : AllBelow (length m.terms) list
  pub trees : map (tree_of m) list ≡ map simple_type (take k xs)

below_more : (n k : ℕ) (xs : List TypeId) → n ≤ k → AllBelow n xs → AllBelow k xs
below_more n k [] le h = tt
below_more n k (x ∷ xs) le h = let here = h.0 in (omega (arith, le, here), below_more n k xs le h.1)

below_push : (n : ℕ) (xs : List TypeId) (t : TypeId) → AllBelow n xs → t.0 < n → AllBelow n (xs ++ (t ∷ []))
below_push n [] t h lt = (lt, tt)
below_push n (x ∷ xs) t h lt = (h.0, below_push n xs t h.1 lt)

trees_stay : (a b : Known) (xs : List TypeId) → Grows a b → AllBelow (length a.terms) xs → map (tree_of b) xs ≡ map (tree_of a) xs
trees_stay a b [] g h = refl
trees_stay a b (x ∷ xs) g h = ap (λ (t : Ty). t ∷ map (tree_of b) xs) (g.more.trees x.0 h.0) ∙ ap (λ ts. tree a x.0 ∷ ts) (trees_stay a b xs g h.1)

pub listed_next : (old m new : Known) (xs : List Simple) (k : ℕ) (list more : List TypeId) (t : TypeId) (d : Simple) → Listed old m xs k list → k < length xs → Grows m new → t.0 < length new.terms → tree new t.0 ≡ simple_type (get_or xs k d)
    → more ≡ list ++ (t ∷ []) → Listed old new xs (k + 1) more
listed_next old m new xs k list more t d h lt g known is pushed =
    let terms : length m.terms ≤ length new.terms = g.more.terms in
    record {
      grows = then_grows old m new h.grows g;
      below = rw pushed (below_push (length new.terms) list t (below_more (length m.terms) (length new.terms) list terms h.below) known);
      trees = ap (map (tree_of new)) pushed ∙ map_push (tree_of new) list t ∙ ap (λ ts. ts ++ (tree new t.0 ∷ [])) (trees_stay m new list g h.below ∙ h.trees)
          ∙ ap (λ (u : Ty). map simple_type (take k xs) ++ (u ∷ [])) is ∙ sym (map_push simple_type (take k xs) (get_or xs k d)) ∙ ap (map simple_type) (sym (take_more xs k d lt));
    }

abbrev first_or : Ty → List Ty → Ty
first_or d [] = d
first_or d (t ∷ ts) = t

abbrev rest_of : List Ty → List Ty
rest_of [] = []
rest_of (t ∷ ts) = ts

tys_are : (m : Known) (list : List TypeId) (xs : List Simple) → map (tree_of m) list ≡ map simple_type xs → tys_in (trees m) list ≡ simple_types xs
tys_are m [] [] e = refl
tys_are m [] (x ∷ xs) e = cc
tys_are m (t ∷ ts) [] e = cc
tys_are m (t ∷ ts) (x ∷ xs) e =
    let rest = tys_are m ts xs (ap rest_of e) in
    let first = ap (first_or VoidTy) e in
    ap (λ (u : Ty). MoreTys u (tys_in (trees m) ts)) first ∙ ap (MoreTys (simple_type x)) rest

pub listed_done : (old m : Known) (xs : List Simple) (k : ℕ) (list : List TypeId) → Listed old m xs k list → length xs ≤ k → tys_in (trees m) list ≡ simple_types xs
listed_done old m xs k list h end = tys_are m list xs (h.trees ∙ ap (map simple_type) (take_all k xs end))

-- in a table that has more
pub tys_stay : (a b : Known) (xs : List TypeId) → ((i : ℕ) → i < length a.terms → tree b i ≡ tree a i) → AllBelow (length a.terms) xs → tys_in (trees b) xs ≡ tys_in (trees a) xs
tys_stay a b [] stands h = refl
tys_stay a b (x ∷ xs) stands h = ap (λ (u : Ty). MoreTys u (tys_in (trees b) xs)) (stands x.0 h.0) ∙ ap (MoreTys (tree a x.0)) (tys_stay a b xs stands h.1)

one_adjusted : (x : Simple) → is_adjusted (simple_type x) ≡ true
one_adjusted simple.Void = refl
one_adjusted simple.Int = refl
one_adjusted simple.Size = refl
one_adjusted simple.Bytes = refl
one_adjusted simple.ConstantBytes = refl
one_adjusted simple.Text = refl
one_adjusted simple.ConstantText = refl

-- none of them is an array or a function
pub simple_adjusted : (xs : List Simple) → IsTrue (are_adjusted (simple_types xs))
simple_adjusted [] = refl
simple_adjusted (x ∷ xs) = both_true (one_adjusted x) (simple_adjusted xs)
