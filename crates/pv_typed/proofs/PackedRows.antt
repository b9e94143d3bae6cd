-- The rows of the table of nodes, as they are packed.
use Rattle.std.proofs.Common.{◌≡◌, ◌<◌, ◌≤◌, ◌++◌, ◌∷◌, [], ℕ, zero, suc, ◌+◌, List, length, map, get_or, take, length-append, refl, sym, ap, ◌∙◌, subst, arith}
use Rattle.std.proofs.lemmas.List.{map-append, get_or-map, length-map, get_or_append_left, get_or_push, get_or_default, take-map}
use Rattle.pv_typed.specs.declared.nodes.TypedStmt.TheVariants as stmt
use Rattle.pv_typed.specs.declared.rows.What.TheVariants as what
use Rattle.pv_typed.specs.declared.rows.Row.{Row}
use Rattle.pv_typed.specs.declared.packed.Packed.{Packed}
use Rattle.pv_typed.specs.declared.packed.Packed.TheVariants as packed
use Rattle.pv_typed.specs.Known.{Each}
use Rattle.pv_typed.specs.Children.{row_at}
use Rattle.pv_typed.specs.Packed.{row_of, IsThere}
use Rattle.pv_typed.proofs.Each.{each_at, each_append, each_weaker, map_same}

row_stays : (whole : List Row) (row : Row) (k : Packed) → IsThere (length whole) k → row_of (whole ++ (row ∷ [])) k ≡ row_of whole k
row_stays whole row (packed.Expression counts plain t line x) h = refl
row_stays whole row (packed.Statement declared line x) h = refl
row_stays whole row (packed.Whole i) h = get_or_append_left whole (row ∷ []) (record { what = what.Statement stmt.Empty 0; line = 0 }) i h

there_more : (n m : ℕ) → n ≤ m → (k : Packed) → IsThere n k → IsThere m k
there_more n m le (packed.Expression counts plain t line x) h = tt
there_more n m le (packed.Statement declared line x) h = tt
there_more n m le (packed.Whole i) h = omega (arith, le, h)

pub packed_more : (whole : List Row) (ks : List Packed) (k : Packed) (now : List Row) (row : Row) → map (row_of whole) ks ≡ now → row_of whole k ≡ row → map (row_of whole) (ks ++ (k ∷ [])) ≡ now ++ (row ∷ [])
packed_more whole ks k now row seen is =
    map-append (row_of whole) ks (k ∷ [])
    ∙ ap (λ rs. rs ++ (row_of whole k ∷ [])) seen
    ∙ ap (λ r. now ++ (r ∷ [])) is

pub packed_there : (n : ℕ) (ks : List Packed) (k : Packed) → Each (IsThere n) ks → IsThere n k → Each (IsThere n) (ks ++ (k ∷ []))
packed_there n ks k there here = each_append (IsThere n) ks (k ∷ []) there (here, tt)

-- one more whole row, and the row that refers to it
module _ (whole : List Row) (ks : List Packed) (row : Row) (there : Each (IsThere (length whole)) ks) where
  pub whole_more : (now : List Row) → map (row_of whole) ks ≡ now → map (row_of (whole ++ (row ∷ []))) (ks ++ (packed.Whole (length whole) ∷ [])) ≡ now ++ (row ∷ [])
  whole_more now seen =
      packed_more (whole ++ (row ∷ [])) ks (packed.Whole (length whole)) now row
      (map_same (row_of (whole ++ (row ∷ []))) (row_of whole) (IsThere (length whole)) (row_stays whole row) ks there ∙ seen)
      (get_or_push whole row (record { what = what.Statement stmt.Empty 0; line = 0 }) (length whole) refl)

  pub whole_there : Each (IsThere (length (whole ++ (row ∷ [])))) (ks ++ (packed.Whole (length whole) ∷ []))
  whole_there =
      let longer : length (whole ++ (row ∷ [])) ≡ length whole + 1 = length-append whole (row ∷ []) in
      packed_there (length (whole ++ (row ∷ []))) ks (packed.Whole (length whole))
      (each_weaker (IsThere (length whole)) (IsThere (length (whole ++ (row ∷ [])))) (there_more (length whole) (length (whole ++ (row ∷ []))) (omega (arith, longer))) ks there)
      (omega (arith, longer))

-- a row that was read
module _ (whole : List Row) (ks : List Packed) (now : List Row) (i : ℕ) (k : Packed) (here : i < length now) (seen : map (row_of whole) ks ≡ now) (read : k ≡ get_or ks i k) where
  within : i < length ks
  within = omega (arith, here, ap (λ (rs : List Row). length rs) seen, length-map ks (row_of whole))

  pub row_read : row_at now i ≡ row_of whole k
  row_read =
      ap (λ rs. row_at rs i) (sym seen)
      ∙ get_or-map (row_of whole) ks i k (record { what = what.Statement stmt.Empty 0; line = 0 }) within
      ∙ ap (row_of whole) (sym read)

  pub read_there : (n : ℕ) → Each (IsThere n) ks → IsThere n k
  read_there n there = subst (IsThere n) (sym read) (each_at (IsThere n) k ks there i within)

-- a whole row that was read
pub whole_read : (whole : List Row) (n : ℕ) (r : Row) → n < length whole → r ≡ get_or whole n r → row_at whole n ≡ r
whole_read whole n r here read = sym (read ∙ get_or_default whole n r (record { what = what.Statement stmt.Empty 0; line = 0 }) here)

pub packed_take : (whole : List Row) (ks : List Packed) (now : List Row) (n : ℕ) → map (row_of whole) ks ≡ now → map (row_of whole) (take n ks) ≡ take n now
packed_take whole ks now n seen = sym (take-map (row_of whole) n ks) ∙ ap (take n) seen

pub take_there : (m n : ℕ) (ks : List Packed) → Each (IsThere m) ks → Each (IsThere m) (take n ks)
take_there m zero ks there = tt
take_there m (suc n) [] there = tt
take_there m (suc n) (k ∷ ks) there = (there.0, take_there m n ks there.1)
