-- Stores of abstract bytes that are alike (C17 6.5p6): what is found, read, written and cleared in them is alike.
use Rattle.std.proofs.Common.{◌≡◌, ℕ, zero, suc, ◌+◌, Bool, true, false, cond, List, [], ◌∷◌, map, length, take, drop, replicate, Option, Some, None, unwrap_or, refl, sym, ap, subst₂, nat_cmp}
use Rattle.std.specs.Cmp.{nat_cmp_total}
use Rattle.std.specs.Ordering.{eq_by_cmp}
use Rattle.std.specs.List.{repeat}
use Rattle.std.specs.FinMap.{get, insert, remove, get-insert, get-remove}
use Rattle.pv_types.specs.Known.{Known}
use Rattle.pv_prov.specs.declared.names.Prov.{Prov}
use Rattle.pv_shadow.specs.declared.byte.Byte.{Byte}
use Rattle.pv_shadow.specs.Bytes.{Store, blank_byte, bytes_from, with_bytes_at, with_blanks, without_bytes}
use Rattle.pv_shadow.specs.Whole.{mark_at, number_bytes, pointer_bytes}
use Rattle.pv_numbering.proofs.Marks.{AcceptedAlike, AlikeMarks, AlikeByte, AlikeBytes, AlikeAt, AlikeStores}

-- 6.5p6: the numbers of a type by which two stores mark their bytes
abbrev pub AlikeNumbers : (m m' : Known) → Option ℕ → Option ℕ → Type 0
AlikeNumbers m m' None None = Unit {0}
AlikeNumbers m m' (Some n) (Some n') = (k : ℕ) → AcceptedAlike m m' (n, k) (n', k)
AlikeNumbers m m' None (Some n') = ⊥
AlikeNumbers m m' (Some n) None = ⊥

module _ (m m' : Known) where
  at_cond : (c : Bool) (o o' p p' : Option Byte) → AlikeAt m m' o o' → AlikeAt m m' p p' → AlikeAt m m' (cond c o p) (cond c o' p')
  at_cond true o o' p p' h g = h
  at_cond false o o' p p' h g = g

  pub alike_insert : (b b' : Store) (k : ℕ) (x x' : Byte) → AlikeStores m m' b b' → AlikeByte m m' x x' → AlikeStores m m' (insert b k x) (insert b' k x')
  alike_insert b b' k x x' h g q =
      subst₂ (AlikeAt m m') (sym (get-insert nat_cmp_total b k x q)) (sym (get-insert nat_cmp_total b' k x' q))
      (at_cond (eq_by_cmp nat_cmp q k) (Some x) (Some x') (get b q) (get b' q) g (h q))

  alike_remove : (b b' : Store) (k : ℕ) → AlikeStores m m' b b' → AlikeStores m m' (remove b k) (remove b' k)
  alike_remove b b' k h q =
      subst₂ (AlikeAt m m') (sym (get-remove nat_cmp_total b k q)) (sym (get-remove nat_cmp_total b' k q))
      (at_cond (eq_by_cmp nat_cmp q k) None None (get b q) (get b' q) tt (h q))

  -- a byte without a mark
  pub unmarked : (v : Option ℕ) (p : Prov) (j : Option ℕ) → AlikeByte m m' (record { value = v; prov = p; index = j; mark = None }) (record { value = v; prov = p; index = j; mark = None })
  unmarked v p j = record { value = refl; prov = refl; index = refl; mark = tt }

  alike_blank : AlikeByte m m' blank_byte blank_byte
  alike_blank = record { value = refl; prov = refl; index = refl; mark = tt }

  or_blank : (o o' : Option Byte) → AlikeAt m m' o o' → AlikeByte m m' (unwrap_or o blank_byte) (unwrap_or o' blank_byte)
  or_blank None None h = alike_blank
  or_blank (Some x) (Some x') h = h
  or_blank None (Some x') h = absurd h
  or_blank (Some x) None h = absurd h

  pub alike_read : (b b' : Store) (a n : ℕ) → AlikeStores m m' b b' → AlikeBytes m m' (bytes_from b a n) (bytes_from b' a n)
  unfolding bytes_from
  alike_read b b' a zero h = tt
  alike_read b b' a (suc n) h = (or_blank (get b a) (get b' a) (h a), alike_read b b' (a + 1) n h)

  pub alike_written : (b b' : Store) (a : ℕ) (xs xs' : List Byte) → AlikeStores m m' b b' → AlikeBytes m m' xs xs' → AlikeStores m m' (with_bytes_at b a xs) (with_bytes_at b' a xs')
  alike_written b b' a [] [] h g = h
  alike_written b b' a (x ∷ xs) (x' ∷ xs') h g = alike_written (insert b a x) (insert b' a x') (a + 1) xs xs' (alike_insert b b' a x x' h g.0) g.1
  alike_written b b' a [] (x' ∷ xs') h g = absurd g
  alike_written b b' a (x ∷ xs) [] h g = absurd g

  pub alike_spread : (b b' : Store) (a n : ℕ) → AlikeStores m m' b b' → AlikeStores m m' (with_blanks b a n) (with_blanks b' a n)
  alike_spread b b' a zero h = h
  alike_spread b b' a (suc n) h = alike_spread (insert b a blank_byte) (insert b' a blank_byte) (a + 1) n (alike_insert b b' a blank_byte blank_byte h alike_blank)

  pub alike_cleared : (b b' : Store) (a n : ℕ) → AlikeStores m m' b b' → AlikeStores m m' (without_bytes b a n) (without_bytes b' a n)
  alike_cleared b b' a zero h = h
  alike_cleared b b' a (suc n) h = alike_cleared (remove b a) (remove b' a) (a + 1) n (alike_remove b b' a h)

  pub length-same : (xs xs' : List Byte) → AlikeBytes m m' xs xs' → length xs' ≡ length xs
  length-same [] [] h = refl
  length-same (x ∷ xs) (x' ∷ xs') h = ap suc (length-same xs xs' h.1)
  length-same [] (x' ∷ xs') h = absurd h
  length-same (x ∷ xs) [] h = absurd h

  pub alike_take : (n : ℕ) (xs xs' : List Byte) → AlikeBytes m m' xs xs' → AlikeBytes m m' (take n xs) (take n xs')
  alike_take zero xs xs' h = tt
  alike_take (suc n) [] [] h = tt
  alike_take (suc n) (x ∷ xs) (x' ∷ xs') h = (h.0, alike_take n xs xs' h.1)
  alike_take (suc n) [] (x' ∷ xs') h = absurd h
  alike_take (suc n) (x ∷ xs) [] h = absurd h

  pub alike_drop : (n : ℕ) (xs xs' : List Byte) → AlikeBytes m m' xs xs' → AlikeBytes m m' (drop n xs) (drop n xs')
  alike_drop zero xs xs' h = h
  alike_drop (suc n) [] [] h = tt
  alike_drop (suc n) (x ∷ xs) (x' ∷ xs') h = alike_drop n xs xs' h.1
  alike_drop (suc n) [] (x' ∷ xs') h = absurd h
  alike_drop (suc n) (x ∷ xs) [] h = absurd h

  -- the same byte, so many times
  pub alike_replicate : (n : ℕ) (x : Byte) → AlikeByte m m' x x → AlikeBytes m m' (replicate n x) (replicate n x)
  alike_replicate zero x h = tt
  alike_replicate (suc n) x h = (h, alike_replicate n x h)

  pub alike_repeat : (n : ℕ) (x : Byte) → AlikeByte m m' x x → AlikeBytes m m' (repeat n (x ∷ [])) (repeat n (x ∷ []))
  alike_repeat zero x h = tt
  alike_repeat (suc n) x h = (h, alike_repeat n x h)

  -- a byte of each number
  pub alike_map : (f : ℕ → Byte) → ((v : ℕ) → AlikeByte m m' (f v) (f v)) → (vs : List ℕ) → AlikeBytes m m' (map f vs) (map f vs)
  alike_map f h [] = tt
  alike_map f h (v ∷ vs) = (h v, alike_map f h vs)

  marks_at : (o o' : Option ℕ) (j : ℕ) → AlikeNumbers m m' o o' → AlikeMarks m m' (mark_at o j) (mark_at o' j)
  marks_at None None j h = tt
  marks_at (Some n) (Some n') j h = h j
  marks_at None (Some n') j h = absurd h
  marks_at (Some n) None j h = absurd h

  pub alike_plain : (o o' : Option ℕ) (j : ℕ) (vs : List ℕ) → AlikeNumbers m m' o o' → AlikeBytes m m' (number_bytes o j vs) (number_bytes o' j vs)
  alike_plain o o' j [] h = tt
  alike_plain o o' j (v ∷ vs) h = (record { value = refl; prov = refl; index = refl; mark = marks_at o o' j h }, alike_plain o o' (j + 1) vs h)

  pub alike_pointed : (o o' : Option ℕ) (p : Prov) (j : ℕ) (vs : List ℕ) → AlikeNumbers m m' o o' → AlikeBytes m m' (pointer_bytes o p j vs) (pointer_bytes o' p j vs)
  alike_pointed o o' p j [] h = tt
  alike_pointed o o' p j (v ∷ vs) h = (record { value = refl; prov = refl; index = refl; mark = marks_at o o' j h }, alike_pointed o o' p (j + 1) vs h)
