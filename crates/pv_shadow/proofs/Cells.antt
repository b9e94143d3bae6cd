-- What a page keeps packed, in cells or byte by byte, is what its places are.
use Rattle.std.proofs.Common.{◌≡◌, ◌≢◌, ℕ, zero, suc, ◌+◌, ◌-◌, ◌/◌, ◌%◌, ◌<◌, ◌≤◌, ◌==◌, true, false, cond, leb, length, set, get_or, map, replicate, List, [], ◌∷◌, Option, Some, None, IsSomeAnd, refl, sym, ap, ◌∙◌, subst, inl, inr, ⊎_elim, arith}
use Rattle.std.proofs.lemmas.Bool.{cases_lt}
use Rattle.std.proofs.lemmas.Bool.Decides.{nat_tests}
use Rattle.std.proofs.lemmas.List.{get_or-set_same, get_or-set_other, length-set, ext_get_or}
use Rattle.pv_prov.specs.declared.names.Prov.{Prov}
use Rattle.pv_prov.specs.declared.names.Prov.TheVariants.{Empty, Inst, Pair}
use Rattle.pv_shadow.specs.declared.byte.Byte.{Byte}
use Rattle.pv_shadow.specs.declared.packed.Packed.{Packed}
use Rattle.pv_shadow.specs.Packed.{byte_packed, number_if, pair_if, absent, digit_at, name_in, head_of, eight_head, number_head, cell_byte, number_byte, cell_or, number_or, first_of, four_of, loose_at, seen_at, seen_from, page_bytes, IsParted, IsLoosened, IsByteOf, IsCell, IsNameless, IsNumber}
use Rattle.pv_shadow.specs.Pages.{slot_at, with_slots}
use Rattle.pv_shadow.specs.Whole.{little_endian, mark_at, number_bytes, pointer_bytes}
use Rattle.pv_shadow.proofs.Ranges.{IsOutside, place_of}
use Rattle.pv_shadow.proofs.Pages.{same_or_not, with_slots_in, with_slots_out, length_with, past_the_end}

pub length_from : (n i : ℕ) (xs : List Packed) → length (seen_from n i xs) ≡ n
length_from zero i xs = refl
length_from (suc n) i xs = ap suc (length_from n (i + 1) xs)

at_from : (n i : ℕ) (xs : List Packed) (j : ℕ) → j < n → get_or (seen_from n i xs) j None ≡ seen_at xs (i + j)
at_from zero i xs j h = absurd (omega arith)
at_from (suc n) i xs zero h = let e : i ≡ i + 0 = omega arith in ap (seen_at xs) e
at_from (suc n) i xs (suc j) h = let e : (i + 1) + j ≡ i + suc j = omega arith in at_from n (i + 1) xs j (omega arith) ∙ ap (seen_at xs) e

pub seen_length : (xs : List Packed) → length (page_bytes xs) ≡ 256
unfolding page_bytes
seen_length xs = length_from 256 0 xs

pub seen_slot : (xs : List Packed) (i : ℕ) → i < 256 → slot_at (page_bytes xs) i ≡ seen_at xs i
unfolding page_bytes
seen_slot xs i h = let e : 0 + i ≡ i = omega arith in at_from 256 0 xs i h ∙ ap (seen_at xs) e

seen_is : (xs : List Packed) (os : List (Option Byte)) → length os ≡ 256 → ((i : ℕ) → i < 256 → seen_at xs i ≡ slot_at os i) → page_bytes xs ≡ os
seen_is xs os l f =
    let w : length (page_bytes xs) ≡ 256 = seen_length xs in
    ext_get_or None (page_bytes xs) os (w ∙ sym l) (λ i h. let b : i < 256 = omega (arith, w) in seen_slot xs i b ∙ f i b)

pub seen_alike : (xs ys : List Packed) → ((i : ℕ) → i < 256 → seen_at xs i ≡ seen_at ys i) → page_bytes xs ≡ page_bytes ys
seen_alike xs ys f = seen_is xs (page_bytes ys) (seen_length ys) (λ i h. f i h ∙ sym (seen_slot ys i h))

is_below : (m k : ℕ) → k < m → leb m k ≡ false
is_below m k h = grind (arith, nat_tests)

is_above : (m k : ℕ) → m ≤ k → leb m k ≡ true
is_above m k h = grind (arith, nat_tests)

pub at_loose : (xs : List Packed) (i : ℕ) → (get_or xs (first_of i) absent).kind < 64 → seen_at xs i ≡ loose_at xs i
at_loose xs i h = ap (λ b. cond b (Some (cell_byte (get_or xs (first_of i) absent) (get_or xs (first_of i + 1) absent).name (i % 8))) (loose_at xs i)) (is_below 64 (get_or xs (first_of i) absent).kind h)

pub at_cell : (xs : List Packed) (i : ℕ) → 64 ≤ (get_or xs (first_of i) absent).kind → seen_at xs i ≡ Some (cell_byte (get_or xs (first_of i) absent) (get_or xs (first_of i + 1) absent).name (i % 8))
at_cell xs i h = ap (λ b. cond b (Some (cell_byte (get_or xs (first_of i) absent) (get_or xs (first_of i + 1) absent).name (i % 8))) (loose_at xs i)) (is_above 64 (get_or xs (first_of i) absent).kind h)

pub loose_single : (xs : List Packed) (i : ℕ) → (get_or xs (four_of i) absent).kind < 48 → loose_at xs i ≡ byte_packed (get_or xs i absent)
loose_single xs i h = ap (λ b. cond b (Some (number_byte (get_or xs (four_of i) absent) (i % 4))) (byte_packed (get_or xs i absent))) (is_below 48 (get_or xs (four_of i) absent).kind h)

pub loose_number : (xs : List Packed) (i : ℕ) → 48 ≤ (get_or xs (four_of i) absent).kind → loose_at xs i ≡ Some (number_byte (get_or xs (four_of i) absent) (i % 4))
loose_number xs i h = ap (λ b. cond b (Some (number_byte (get_or xs (four_of i) absent) (i % 4))) (byte_packed (get_or xs i absent))) (is_above 48 (get_or xs (four_of i) absent).kind h)

-- byte k of the pointer or the number whose cell begins at a place
pub cell_at : (xs : List Packed) (g k : ℕ) → g % 8 ≡ 0 → k < 8 → 64 ≤ (get_or xs g absent).kind → seen_at xs (g + k) ≡ Some (cell_byte (get_or xs g absent) (get_or xs (g + 1) absent).name k)
cell_at xs g k f h c =
    let e : first_of (g + k) ≡ g = omega arith in
    let m : (g + k) % 8 ≡ k = omega arith in
    at_cell xs (g + k) (subst (λ j. 64 ≤ (get_or xs j absent).kind) (sym e) c)
    ∙ ap (λ j. Some (cell_byte (get_or xs j absent) (get_or xs (j + 1) absent).name ((g + k) % 8))) e
    ∙ ap (λ j. Some (cell_byte (get_or xs g absent) (get_or xs (g + 1) absent).name j)) m

pub number_at : (xs : List Packed) (f k : ℕ) → f % 4 ≡ 0 → k < 4 → (get_or xs (first_of f) absent).kind < 64 → 48 ≤ (get_or xs f absent).kind → seen_at xs (f + k) ≡ Some (number_byte (get_or xs f absent) k)
number_at xs f k first h head c =
    let e : four_of (f + k) ≡ f = omega arith in
    let g : first_of (f + k) ≡ first_of f = omega arith in
    let m : (f + k) % 4 ≡ k = omega arith in
    at_loose xs (f + k) (subst (λ j. (get_or xs j absent).kind < 64) (sym g) head)
    ∙ loose_number xs (f + k) (subst (λ j. 48 ≤ (get_or xs j absent).kind) (sym e) c)
    ∙ ap (λ j. Some (number_byte (get_or xs j absent) ((f + k) % 4))) e
    ∙ ap (λ j. Some (number_byte (get_or xs f absent) j)) m

-- a byte that has a value and no name
not_zero : (k : ℕ) → 0 < k → (k == 0) ≡ false
not_zero k h = grind (arith, nat_tests)

pub nameless_is : (x : Packed) → x.kind / 16 ≡ 0 → x.kind / 2 % 2 ≡ 1 → IsSomeAnd (byte_packed x) (IsNameless x.value)
nameless_is x named valued =
    let some : 0 < x.kind = omega (arith, valued) in
    let is : Byte = record { value = number_if (x.kind / 2 % 2) x.value; prov = name_in (x.kind / 16) x.name; index = number_if (x.kind / 4 % 2) x.index; mark = pair_if (x.kind / 8 % 2) x.mark x.place } in
    subst (λ t. IsSomeAnd (cond t None (Some is)) (IsNameless x.value)) (sym (not_zero x.kind some))
    (ap (λ d. number_if d x.value) valued, ap (λ d. name_in d x.name) named)

-- a page without bytes
unset : (n i : ℕ) → get_or (replicate n absent) i absent ≡ absent
unset zero i = refl
unset (suc n) zero = refl
unset (suc n) (suc i) = unset n i

pub none_seen : page_bytes (replicate 256 absent) ≡ replicate 256 None
none_seen = seen_is (replicate 256 absent) (replicate 256 None) refl (λ i h.
    let k : (get_or (replicate 256 absent) (first_of i) absent).kind ≡ 0 = ap (λ x. x.kind) (unset 256 (first_of i)) in
    let f : (get_or (replicate 256 absent) (four_of i) absent).kind ≡ 0 = ap (λ x. x.kind) (unset 256 (four_of i)) in
    at_loose (replicate 256 absent) i (omega (arith, k)) ∙ loose_single (replicate 256 absent) i (omega (arith, f)) ∙ ap byte_packed (unset 256 i) ∙ sym (no_slot 256 i))
  where
    no_slot : (n i : ℕ) → slot_at (replicate n None) i ≡ None
    no_slot zero i = refl
    no_slot (suc n) zero = refl
    no_slot (suc n) (suc i) = no_slot n i

-- where nothing is kept, no byte is seen
no_byte : (x : Packed) → x.kind ≡ 0 → byte_packed x ≡ None
no_byte x e = ap (λ k. cond (k == 0) None (Some (record {
  value = number_if (x.kind / 2 % 2) x.value;
  prov = name_in (x.kind / 16) x.name;
  index = number_if (x.kind / 4 % 2) x.index;
  mark = pair_if (x.kind / 8 % 2) x.mark x.place;
}))) e

pub none_kept : (xs : List Packed) → ((j : ℕ) → j < 256 → (get_or xs j absent).kind ≡ 0) → (j : ℕ) → slot_at (page_bytes xs) j ≡ None
none_kept xs none j = ⊎_elim
    (λ h.
    let k : (get_or xs (first_of j) absent).kind ≡ 0 = none (first_of j) (omega arith) in
    let f : (get_or xs (four_of j) absent).kind ≡ 0 = none (four_of j) (omega arith) in
    seen_slot xs j h ∙ at_loose xs j (omega (arith, k)) ∙ loose_single xs j (omega (arith, f)) ∙ no_byte (get_or xs j absent) (none j h))
    (λ h. past_the_end (page_bytes xs) j (omega (arith, seen_length xs)))
    (cases_lt j 256)

-- the same head of a group, the same number behind it, and the same byte where the group is no pointer's cell
three : (xs ys : List Packed) (q : ℕ) → get_or ys (first_of q) absent ≡ get_or xs (first_of q) absent → get_or ys (first_of q + 1) absent ≡ get_or xs (first_of q + 1) absent → loose_at ys q ≡ loose_at xs q → seen_at ys q ≡ seen_at xs q
three xs ys q a b c =
    ap (λ h. cell_or h (get_or ys (first_of q + 1) absent).name (q % 8) (loose_at ys q)) a
    ∙ ap (λ (n : Packed). cell_or (get_or xs (first_of q) absent) n.name (q % 8) (loose_at ys q)) b
    ∙ ap (λ o. cell_or (get_or xs (first_of q) absent) (get_or xs (first_of q + 1) absent).name (q % 8) o) c

-- the same head of four places, and the same place
two : (xs ys : List Packed) (q : ℕ) → get_or ys (four_of q) absent ≡ get_or xs (four_of q) absent → get_or ys q absent ≡ get_or xs q absent → loose_at ys q ≡ loose_at xs q
two xs ys q a b = ap (λ h. number_or h (q % 4) (get_or ys q absent)) a ∙ ap (λ x. number_or (get_or xs (four_of q) absent) (q % 4) x) b

-- where cells became single bytes, a place that was in none is in none
pub still_low : (xs ys : List Packed) (q m : ℕ) → 48 ≤ m → IsLoosened xs ys → (get_or xs q absent).kind < m → (get_or ys q absent).kind < m
still_low xs ys q m h l k = ⊎_elim (λ s. omega (arith, s, h)) (λ e. subst (λ (y : Packed). y.kind < m) (sym e) k) (l q)

pub still_parted : (xs ys : List Packed) (i : ℕ) → IsLoosened xs ys → IsParted xs i → IsParted ys i
still_parted xs ys i l p = (
  ⊎_elim (λ z. inl z) (λ k. inr (still_low xs ys (first_of i) 64 (omega arith) l k)) p.0,
  ⊎_elim (λ z. inl z) (λ k. inr (still_low xs ys (four_of i) 48 (omega arith) l k)) p.1,
)

pub loosened_twice : (xs ys zs : List Packed) → IsLoosened xs ys → IsLoosened ys zs → IsLoosened xs zs
loosened_twice xs ys zs l m = λ q. ⊎_elim
    (λ s. inl s)
    (λ e. ⊎_elim (λ s. inl (subst (λ (y : Packed). y.kind < 48) (sym e) s)) (λ d. inr (e ∙ d)) (l q))
    (m q)

-- a place in no cell lies at no edge that divides one
parted_here : (xs : List Packed) (i : ℕ) → (get_or xs (first_of i) absent).kind < 64 → (get_or xs (four_of i) absent).kind < 48 → IsParted xs i
parted_here xs i head single = (inr head, inr single)

parted_behind : (xs : List Packed) (i : ℕ) → (get_or xs (first_of i) absent).kind < 64 → (get_or xs (four_of i) absent).kind < 48 → IsParted xs (i + 1)
parted_behind xs i head single = (
  ⊎_elim
      (λ l. let e : first_of i ≡ first_of (i + 1) = omega (arith, l) in inr (subst (λ j. (get_or xs j absent).kind < 64) e head))
      (λ r. inl (omega (arith, r)))
      (cases_lt (i % 8) 7),
  ⊎_elim
      (λ l. let e : four_of i ≡ four_of (i + 1) = omega (arith, l) in inr (subst (λ j. (get_or xs j absent).kind < 48) e single))
      (λ r. inl (omega (arith, r)))
      (cases_lt (i % 4) 3),
)

-- single bytes replace what stands at n places, where no cell has addresses on both sides of an edge
module _ (xs ys : List Packed) (i n : ℕ) (front : IsParted xs i) (back : IsParted xs (i + n))
    (single : (k : ℕ) → k < n → (get_or ys (i + k) absent).kind < 48)
    (others : (q : ℕ) → IsOutside i n q → get_or ys q absent ≡ get_or xs q absent) where
  single_in : (q : ℕ) → i ≤ q → q < i + n → (get_or ys q absent).kind < 48
  single_in q l h = let e : i + (q - i) ≡ q = omega arith in subst (λ k. (get_or ys k absent).kind < 48) e (single (q - i) (omega arith))

  -- the heads of a place that an edge parts from them
  front_head : (q : ℕ) → first_of q < i → i ≤ q → (get_or xs (first_of q) absent).kind < 64
  front_head q l h = ⊎_elim
      (λ z. absurd (omega (arith, z, l, h)))
      (λ k. let e : first_of i ≡ first_of q = omega (arith, l, h) in subst (λ j. (get_or xs j absent).kind < 64) e k)
      front.0

  front_single : (q : ℕ) → four_of q < i → i ≤ q → (get_or xs (four_of q) absent).kind < 48
  front_single q l h = ⊎_elim
      (λ z. absurd (omega (arith, z, l, h)))
      (λ k. let e : four_of i ≡ four_of q = omega (arith, l, h) in subst (λ j. (get_or xs j absent).kind < 48) e k)
      front.1

  back_head : (q : ℕ) → first_of q < i + n → i + n ≤ q → (get_or xs (first_of q) absent).kind < 64
  back_head q l h = ⊎_elim
      (λ z. absurd (omega (arith, z, l, h)))
      (λ k. let e : first_of (i + n) ≡ first_of q = omega (arith, l, h) in subst (λ j. (get_or xs j absent).kind < 64) e k)
      back.0

  back_single : (q : ℕ) → four_of q < i + n → i + n ≤ q → (get_or xs (four_of q) absent).kind < 48
  back_single q l h = ⊎_elim
      (λ z. absurd (omega (arith, z, l, h)))
      (λ k. let e : four_of (i + n) ≡ four_of q = omega (arith, l, h) in subst (λ j. (get_or xs j absent).kind < 48) e k)
      back.1

  -- a place of the range has its own byte
  inside : (q : ℕ) → i ≤ q → q < i + n → seen_at ys q ≡ byte_packed (get_or ys q absent)
  inside q l h =
      let head : (get_or ys (first_of q) absent).kind < 64 = ⊎_elim
      (λ below. subst (λ (y : Packed). y.kind < 64) (sym (others (first_of q) (inl below))) (front_head q below l))
      (λ above. let s = single_in (first_of q) above (omega (arith, h)) in omega (arith, s))
      (cases_lt (first_of q) i) in
      let four : (get_or ys (four_of q) absent).kind < 48 = ⊎_elim
      (λ below. subst (λ (y : Packed). y.kind < 48) (sym (others (four_of q) (inl below))) (front_single q below l))
      (λ above. single_in (four_of q) above (omega (arith, h)))
      (cases_lt (four_of q) i) in
      at_loose ys q head ∙ loose_single ys q four

  -- a place outside of the range behind one that lies in it
  behind : (q p : ℕ) → IsOutside i n q → p ≤ q → i ≤ p → i + n ≤ q
  behind q p o l from = ⊎_elim (λ h. absurd (omega (arith, h, l, from))) (λ r. r) o

  loose_out : (q : ℕ) → IsOutside i n q → loose_at ys q ≡ loose_at xs q
  loose_out q o = ⊎_elim
      (λ below. two xs ys q (others (four_of q) (inl below)) (others q o))
      (λ from. ⊎_elim
      (λ before. loose_single ys q (single_in (four_of q) from before) ∙ ap byte_packed (others q o)
      ∙ sym (loose_single xs q (back_single q before (behind q (four_of q) o (omega arith) from))))
      (λ above. two xs ys q (others (four_of q) (inr above)) (others q o))
      (cases_lt (four_of q) (i + n)))
      (cases_lt (four_of q) i)

  kept_loose : (q : ℕ) → IsOutside i n q → (get_or xs (first_of q) absent).kind < 64 → (get_or ys (first_of q) absent).kind < 64 → seen_at ys q ≡ seen_at xs q
  kept_loose q o a b = at_loose ys q b ∙ loose_out q o ∙ sym (at_loose xs q a)

  -- behind the head of a pointer's cell that is kept
  next_out : (q : ℕ) → IsOutside i n (first_of q) → 64 ≤ (get_or xs (first_of q) absent).kind → IsOutside i n (first_of q + 1)
  next_out q (inl below) high = ⊎_elim
      (λ l. inl l)
      (λ r.
      let same : first_of (first_of q + 1) ≡ first_of q = omega arith in
      let before : first_of (first_of q + 1) < i = omega (arith, same, below) in
      let low : (get_or xs (first_of q) absent).kind < 64 = subst (λ j. (get_or xs j absent).kind < 64) same (front_head (first_of q + 1) before r) in
      absurd (omega (arith, low, high)))
      (cases_lt (first_of q + 1) i)
  next_out q (inr above) high = inr (omega (arith, above))

  by_head : (q : ℕ) → IsOutside i n q → IsOutside i n (first_of q) → seen_at ys q ≡ seen_at xs q
  by_head q o p = ⊎_elim
      (λ low. kept_loose q o low (subst (λ (y : Packed). y.kind < 64) (sym (others (first_of q) p)) low))
      (λ high. three xs ys q (others (first_of q) p) (others (first_of q + 1) (next_out q p high)) (loose_out q o))
      (cases_lt (get_or xs (first_of q) absent).kind 64)

  outside : (q : ℕ) → IsOutside i n q → seen_at ys q ≡ seen_at xs q
  outside q o = ⊎_elim
      (λ below. by_head q o (inl below))
      (λ from. ⊎_elim
      (λ before. kept_loose q o (back_head q before (behind q (first_of q) o (omega arith) from)) (let s = single_in (first_of q) from before in omega (arith, s)))
      (λ above. by_head q o (inr above))
      (cases_lt (first_of q) (i + n)))
      (cases_lt (first_of q) i)

  replaced_at : (os : List (Option Byte)) → i + n ≤ 256 → length os ≡ n → ((k : ℕ) → k < n → byte_packed (get_or ys (i + k) absent) ≡ slot_at os k) → (q : ℕ) → q < 256 → seen_at ys q ≡ slot_at (with_slots (page_bytes xs) i os) q
  replaced_at os within long bytes q h = ⊎_elim
      (λ w.
      let fits : i + length os ≤ length (page_bytes xs) = omega (arith, long, within, seen_length xs) in
      inside q (omega (arith, w.2)) (omega (arith, w.1, w.2)) ∙ ap (λ j. byte_packed (get_or ys j absent)) w.2 ∙ bytes w.0 w.1
      ∙ sym (ap (slot_at (with_slots (page_bytes xs) i os)) w.2 ∙ with_slots_in (page_bytes xs) i os w.0 fits (omega (arith, long, w.1))))
      (λ o. outside q o ∙ sym (with_slots_out (page_bytes xs) i os q (subst (λ m. IsOutside i m q) (sym long) o) ∙ seen_slot xs q h))
      (place_of i n q)

  pub replaced : (os : List (Option Byte)) → i + n ≤ 256 → length os ≡ n → ((k : ℕ) → k < n → byte_packed (get_or ys (i + k) absent) ≡ slot_at os k) → page_bytes ys ≡ with_slots (page_bytes xs) i os
  replaced os within long bytes = seen_is ys (with_slots (page_bytes xs) i os) (length_with (page_bytes xs) i os ∙ seen_length xs) (replaced_at os within long bytes)

  pub unchanged : ((k : ℕ) → k < n → byte_packed (get_or ys (i + k) absent) ≡ seen_at xs (i + k)) → page_bytes ys ≡ page_bytes xs
  unchanged bytes = seen_alike ys xs (λ q h. ⊎_elim
      (λ w. inside q (omega (arith, w.2)) (omega (arith, w.1, w.2)) ∙ ap (λ j. byte_packed (get_or ys j absent)) w.2 ∙ bytes w.0 w.1 ∙ ap (seen_at xs) (sym w.2))
      (λ o. outside q o)
      (place_of i n q))

-- a single byte is put
module _ (xs : List Packed) (i : ℕ) (x : Packed) (wide : length xs ≡ 256) (within : i < 256) where
  put_there : (k : ℕ) → k < 1 → get_or (set xs i x) (i + k) absent ≡ x
  put_there k h = let e : i + k ≡ i = omega (arith, h) in ap (λ j. get_or (set xs i x) j absent) e ∙ get_or-set_same xs i x absent (omega (arith, wide, within))

  one_of : (k : ℕ) → k < 1 → byte_packed x ≡ slot_at (byte_packed x ∷ []) k
  one_of zero h = refl
  one_of (suc k) h = absurd (omega arith)

  pub put_seen : (get_or xs (first_of i) absent).kind < 64 → (get_or xs (four_of i) absent).kind < 48 → x.kind < 48 → page_bytes (set xs i x) ≡ set (page_bytes xs) i (byte_packed x)
  put_seen head four single = replaced xs (set xs i x) i 1 (parted_here xs i head four) (parted_behind xs i head four)
      (λ k h. subst (λ (y : Packed). y.kind < 48) (sym (put_there k h)) single)
      (λ q o. get_or-set_other xs i q x absent (⊎_elim (λ l. λ e. omega (arith, l, e)) (λ r. λ e. omega (arith, r, e)) o))
      (byte_packed x ∷ []) (omega (arith, within)) refl (λ k h. ap byte_packed (put_there k h) ∙ one_of k h)

-- a pointer's cell becomes single bytes
pub loosened : (xs ys : List Packed) (g : ℕ) → g % 8 ≡ 0 → 64 ≤ (get_or xs g absent).kind
    → ((k : ℕ) → k < 8 → byte_packed (get_or ys (g + k) absent) ≡ Some (cell_byte (get_or xs g absent) (get_or xs (g + 1) absent).name k))
    → ((k : ℕ) → k < 8 → (get_or ys (g + k) absent).kind < 48) → ((q : ℕ) → IsOutside g 8 q → get_or ys q absent ≡ get_or xs q absent) → page_bytes ys ≡ page_bytes xs
loosened xs ys g first cell bytes single others =
    let front : IsParted xs g = (inl first, inl (omega (arith, first))) in
    let back : IsParted xs (g + 8) = (inl (omega (arith, first)), inl (omega (arith, first))) in
    unchanged xs ys g 8 front back single others (λ k h. bytes k h ∙ sym (cell_at xs g k first h cell))

-- a number's cell becomes single bytes
pub loosened_number : (xs ys : List Packed) (f : ℕ) → f % 4 ≡ 0 → (get_or xs (first_of f) absent).kind < 64 → 48 ≤ (get_or xs f absent).kind
    → ((k : ℕ) → k < 4 → byte_packed (get_or ys (f + k) absent) ≡ Some (number_byte (get_or xs f absent) k))
    → ((k : ℕ) → k < 4 → (get_or ys (f + k) absent).kind < 48) → ((q : ℕ) → IsOutside f 4 q → get_or ys q absent ≡ get_or xs q absent) → page_bytes ys ≡ page_bytes xs
loosened_number xs ys f first head cell bytes single others =
    let front : IsParted xs f = (inr head, inl first) in
    let back : IsParted xs (f + 4) = (
      ⊎_elim
          (λ l. let e : first_of f ≡ first_of (f + 4) = omega (arith, first, l) in inr (subst (λ j. (get_or xs j absent).kind < 64) e head))
          (λ r. inl (omega (arith, first, r)))
          (cases_lt (f % 8) 4),
      inl (omega (arith, first)),
    ) in
    unchanged xs ys f 4 front back single others (λ k h. bytes k h ∙ sym (number_at xs f k first h head cell))

-- which places are single or as they were
pub loosened_range : (xs ys : List Packed) (i n : ℕ) → ((k : ℕ) → k < n → (get_or ys (i + k) absent).kind < 48) → ((q : ℕ) → IsOutside i n q → get_or ys q absent ≡ get_or xs q absent) → IsLoosened xs ys
loosened_range xs ys i n single others = λ q. ⊎_elim
    (λ w. inl (subst (λ j. (get_or ys j absent).kind < 48) (sym w.2) (single w.0 w.1)))
    (λ o. inr (others q o))
    (place_of i n q)

-- the bytes of a number, and those of its cell
plain_at : (mark : Option ℕ) (n a j k : ℕ) → k < n → slot_at (map Some (number_bytes mark j (little_endian n a))) k ≡ Some (record { value = Some (digit_at a k); prov = Empty; index = None; mark = mark_at mark (j + k) })
plain_at mark zero a j k h = absurd (omega arith)
plain_at mark (suc n) a j zero h = let e : j ≡ j + 0 = omega arith in ap (λ i. Some (record { value = Some (a % 256); prov = Empty; index = None; mark = mark_at mark i })) e
plain_at mark (suc n) a j (suc k) h =
    let e : (j + 1) + k ≡ j + suc k = omega arith in
    plain_at mark n (a / 256) (j + 1) k (omega arith) ∙ ap (λ i. Some (record { value = Some (digit_at (a / 256) k); prov = Empty; index = None; mark = mark_at mark i })) e

plain_first : (mark : Option ℕ) (n a k : ℕ) → k < n → slot_at (map Some (number_bytes mark 0 (little_endian n a))) k ≡ Some (record { value = Some (digit_at a k); prov = Empty; index = None; mark = mark_at mark k })
plain_first mark n a k h =
    let e : 0 + k ≡ k = omega arith in
    plain_at mark n a 0 k h ∙ ap (λ i. Some (record { value = Some (digit_at a k); prov = Empty; index = None; mark = mark_at mark i })) e

number_is : (mark : Option ℕ) (a k : ℕ) → number_byte (number_head a mark) k ≡ record { value = Some (digit_at a k); prov = Empty; index = None; mark = mark_at mark k }
number_is None a k = refl
number_is (Some t) a k = refl

number_kind : (a : ℕ) (mark : Option ℕ) → (48 ≤ (number_head a mark).kind) × ((number_head a mark).kind < 64)
number_kind a None = (omega arith, omega arith)
number_kind a (Some t) = (omega arith, omega arith)

-- a number's cell is put
module _ (xs : List Packed) (f a : ℕ) (mark : Option ℕ) (wide : length xs ≡ 256) (first : f % 4 ≡ 0) (within : f < 256) (head : (get_or xs (first_of f) absent).kind < 64) where
  abbrev zs : List Packed
  zs = set xs f (number_head a mark)

  abbrev four : List (Option Byte)
  four = map Some (number_bytes mark 0 (little_endian 4 a))

  number_there : get_or zs f absent ≡ number_head a mark
  number_there = get_or-set_same xs f (number_head a mark) absent (omega (arith, wide, within))

  not_there : (q : ℕ) → q ≢ f → get_or zs q absent ≡ get_or xs q absent
  not_there q n = get_or-set_other xs f q (number_head a mark) absent n

  head_before : (q : ℕ) → first_of q ≡ first_of f → (get_or xs (first_of q) absent).kind < 64
  head_before q e = subst (λ j. (get_or xs j absent).kind < 64) (sym e) head

  head_after : (q : ℕ) → first_of q ≡ first_of f → (get_or zs (first_of q) absent).kind < 64
  head_after q e = ⊎_elim
      (λ s. subst (λ (y : Packed). y.kind < 64) (sym (ap (λ j. get_or zs j absent) s ∙ number_there)) (number_kind a mark).1)
      (λ n. subst (λ (y : Packed). y.kind < 64) (sym (not_there (first_of q) n)) (head_before q e))
      (same_or_not (first_of q) f)

  in_four : (q : ℕ) → q < 256 → four_of q ≡ f → seen_at zs q ≡ slot_at (with_slots (page_bytes xs) f four) q
  in_four q h e =
      let k : q ≡ f + q % 4 = omega (arith, e) in
      let m : q % 4 < 4 = omega arith in
      let g : first_of q ≡ first_of f = omega (arith, e) in
      let high : 48 ≤ (get_or zs (four_of q) absent).kind = subst (λ (y : Packed). 48 ≤ y.kind) (sym (ap (λ j. get_or zs j absent) e ∙ number_there)) (number_kind a mark).0 in
      at_loose zs q (head_after q g) ∙ loose_number zs q high
      ∙ ap (λ y. Some (number_byte y (q % 4))) (ap (λ j. get_or zs j absent) e ∙ number_there)
      ∙ ap Some (number_is mark a (q % 4))
      ∙ sym (plain_first mark 4 a (q % 4) m)
      ∙ sym (ap (slot_at (with_slots (page_bytes xs) f four)) k ∙ with_slots_in (page_bytes xs) f four (q % 4) (omega (arith, seen_length xs, first, within)) m)

  out_of_four : (q : ℕ) → q < 256 → four_of q ≢ f → seen_at zs q ≡ slot_at (with_slots (page_bytes xs) f four) q
  out_of_four q h d =
      let same : loose_at zs q ≡ loose_at xs q = two xs zs q (not_there (four_of q) d) (not_there q (λ e. d (omega (arith, e, first)))) in
      let out : IsOutside f 4 q = ⊎_elim (λ l. inl (omega (arith, l, first))) (λ r. inr (⊎_elim (λ l. absurd (d (omega (arith, l, r, first)))) (λ s. s) (cases_lt q (f + 4)))) (cases_lt (four_of q) f) in
      ⊎_elim
      (λ e. at_loose zs q (head_after q e) ∙ same ∙ sym (at_loose xs q (head_before q e)))
      (λ n. three xs zs q (not_there (first_of q) (λ e. n (omega (arith, e)))) (not_there (first_of q + 1) (λ e. omega (arith, e, first))) same)
      (same_or_not (first_of q) (first_of f))
      ∙ sym (with_slots_out (page_bytes xs) f four q out ∙ seen_slot xs q h)

  pub numbered : page_bytes zs ≡ with_slots (page_bytes xs) f four
  numbered = seen_is zs (with_slots (page_bytes xs) f four) (length_with (page_bytes xs) f four ∙ seen_length xs) (λ q h. ⊎_elim (λ e. in_four q h e) (λ d. out_of_four q h d) (same_or_not (four_of q) f))

-- what a number's cell is seen as
low_digit : (a k : ℕ) → k < 4 → digit_at a k ≡ digit_at (a % 4294967296) k
low_digit a zero h = omega arith
low_digit a (suc zero) h = omega arith
low_digit a (suc (suc zero)) h = omega arith
low_digit a (suc (suc (suc zero))) h = omega arith
low_digit a (suc (suc (suc (suc k)))) h = absurd (omega arith)

pub number_seen : (os : List (Option Byte)) (i : ℕ) (h : Packed) → ((k : ℕ) → k < 4 → slot_at os (i + k) ≡ Some (number_byte h k)) → IsNumber os i 4 (h.name % 4294967296)
number_seen os i h bytes = λ k l. subst (λ o. IsSomeAnd o (IsNameless (digit_at (h.name % 4294967296) k))) (sym (bytes k l)) (ap Some (low_digit h.name k l), refl)

-- the bytes of a whole pointer, and those of its cell
pointed_at : (mark : Option ℕ) (p : Prov) (n a j k : ℕ) → k < n → slot_at (map Some (pointer_bytes mark p j (little_endian n a))) k ≡ Some (record { value = Some (digit_at a k); prov = p; index = Some (j + k); mark = mark_at mark (j + k) })
pointed_at mark p zero a j k h = absurd (omega arith)
pointed_at mark p (suc n) a j zero h = let e : j ≡ j + 0 = omega arith in ap (λ i. Some (record { value = Some (a % 256); prov = p; index = Some i; mark = mark_at mark i })) e
pointed_at mark p (suc n) a j (suc k) h =
    let e : (j + 1) + k ≡ j + suc k = omega arith in
    pointed_at mark p n (a / 256) (j + 1) k (omega arith) ∙ ap (λ i. Some (record { value = Some (digit_at (a / 256) k); prov = p; index = Some i; mark = mark_at mark i })) e

pointed_first : (mark : Option ℕ) (p : Prov) (n a k : ℕ) → k < n → slot_at (map Some (pointer_bytes mark p 0 (little_endian n a))) k ≡ Some (record { value = Some (digit_at a k); prov = p; index = Some k; mark = mark_at mark k })
pointed_first mark p n a k h =
    let e : 0 + k ≡ k = omega arith in
    pointed_at mark p n a 0 k h ∙ ap (λ i. Some (record { value = Some (digit_at a k); prov = p; index = Some i; mark = mark_at mark i })) e

cell_is : (p : Prov) (mark : Option ℕ) (a k : ℕ) → cell_byte (head_of p mark) a k ≡ record { value = Some (digit_at a k); prov = p; index = Some k; mark = mark_at mark k }
cell_is Empty None a k = refl
cell_is Empty (Some t) a k = refl
cell_is (Inst i) None a k = refl
cell_is (Inst i) (Some t) a k = refl
cell_is (Pair i) None a k = refl
cell_is (Pair i) (Some t) a k = refl

head_high : (p : Prov) (mark : Option ℕ) → 64 ≤ (head_of p mark).kind
head_high p mark = omega arith

eight_is : (mark : Option ℕ) (a k : ℕ) → cell_byte (eight_head mark) a k ≡ record { value = Some (digit_at a k); prov = Empty; index = None; mark = mark_at mark k }
eight_is None a k = refl
eight_is (Some t) a k = refl

eight_high : (mark : Option ℕ) → 64 ≤ (eight_head mark).kind
eight_high mark = omega arith

-- a cell is put: a head, and what stands behind it
module _ (xs : List Packed) (g : ℕ) (head next : Packed) (os : List (Option Byte)) (wide : length xs ≡ 256) (first : g % 8 ≡ 0) (within : g < 256) (high : 64 ≤ head.kind)
    (long : length os ≡ 8) (bytes : (k : ℕ) → k < 8 → Some (cell_byte head next.name k) ≡ slot_at os k) where
  abbrev ys : List Packed
  ys = set (set xs g head) (g + 1) next

  head_there : get_or ys g absent ≡ head
  head_there = get_or-set_other (set xs g head) (g + 1) g next absent (λ e. omega arith) ∙ get_or-set_same xs g head absent (omega arith)

  next_there : get_or ys (g + 1) absent ≡ next
  next_there = get_or-set_same (set xs g head) (g + 1) next absent (omega (arith, length-set xs g head))

  elsewhere : (q : ℕ) → q ≢ g → q ≢ g + 1 → get_or ys q absent ≡ get_or xs q absent
  elsewhere q n m = get_or-set_other (set xs g head) (g + 1) q next absent m ∙ get_or-set_other xs g q head absent n

  celled_at : (q : ℕ) → q < 256 → seen_at ys q ≡ slot_at (with_slots (page_bytes xs) g os) q
  celled_at q h = ⊎_elim
      (λ e.
      let k : q ≡ g + q % 8 = omega arith in
      let m : q % 8 < 8 = omega arith in
      let hd : get_or ys (first_of q) absent ≡ head = ap (λ j. get_or ys j absent) e ∙ head_there in
      at_cell ys q (subst (λ (y : Packed). 64 ≤ y.kind) (sym hd) high)
      ∙ ap (λ y. Some (cell_byte y (get_or ys (first_of q + 1) absent).name (q % 8))) hd
      ∙ ap (λ j. Some (cell_byte head (get_or ys (j + 1) absent).name (q % 8))) e
      ∙ ap (λ y. Some (cell_byte head y.name (q % 8))) next_there
      ∙ bytes (q % 8) m
      ∙ sym (ap (slot_at (with_slots (page_bytes xs) g os)) k ∙ with_slots_in (page_bytes xs) g os (q % 8) (omega (arith, seen_length xs, long, first, within)) (omega (arith, long, m))))
      (λ d. three xs ys q (elsewhere (first_of q) d (λ e. omega arith)) (elsewhere (first_of q + 1) (λ e. omega arith) (λ e. d (omega arith)))
      (two xs ys q (elsewhere (four_of q) (λ e. d (omega arith)) (λ e. omega arith)) (elsewhere q (λ e. d (omega arith)) (λ e. d (omega arith))))
      ∙ sym (with_slots_out (page_bytes xs) g os q (subst (λ m. IsOutside g m q) (sym long) (⊎_elim (λ l. inl (omega arith)) (λ r. inr (omega arith)) (cases_lt (first_of q) g))) ∙ seen_slot xs q h))
      (same_or_not (first_of q) g)

  cell_put : page_bytes ys ≡ with_slots (page_bytes xs) g os
  cell_put = seen_is ys (with_slots (page_bytes xs) g os) (length_with (page_bytes xs) g os ∙ seen_length xs) celled_at

-- of a pointer, and of a number
pub celled : (xs : List Packed) (g : ℕ) (p : Prov) (mark : Option ℕ) (next : Packed) → length xs ≡ 256 → g % 8 ≡ 0 → g < 256
    → page_bytes (set (set xs g (head_of p mark)) (g + 1) next) ≡ with_slots (page_bytes xs) g (map Some (pointer_bytes mark p 0 (little_endian 8 next.name)))
celled xs g p mark next wide first within = cell_put xs g (head_of p mark) next (map Some (pointer_bytes mark p 0 (little_endian 8 next.name))) wide first within (head_high p mark) refl
    (λ k h. ap Some (cell_is p mark next.name k) ∙ sym (pointed_first mark p 8 next.name k h))

pub eighted : (xs : List Packed) (g : ℕ) (mark : Option ℕ) (next : Packed) → length xs ≡ 256 → g % 8 ≡ 0 → g < 256
    → page_bytes (set (set xs g (eight_head mark)) (g + 1) next) ≡ with_slots (page_bytes xs) g (map Some (number_bytes mark 0 (little_endian 8 next.name)))
eighted xs g mark next wide first within = cell_put xs g (eight_head mark) next (map Some (number_bytes mark 0 (little_endian 8 next.name))) wide first within (eight_high mark) refl
    (λ k h. ap Some (eight_is mark next.name k) ∙ sym (plain_first mark 8 next.name k h))

-- the marks of a cell
pub marks_seen : (xs : List Packed) (g : ℕ) → g % 8 ≡ 0 → g < 256 → 64 ≤ (get_or xs g absent).kind
    → (k : ℕ) → k < 8 → IsSomeAnd (slot_at (page_bytes xs) (g + k)) (λ (b : Byte). b.mark ≡ pair_if (((get_or xs g absent).kind - 64) % 2) (get_or xs g absent).mark k)
marks_seen xs g f w c = λ k h.
    let s : slot_at (page_bytes xs) (g + k) ≡ Some (cell_byte (get_or xs g absent) (get_or xs (g + 1) absent).name k) =
    seen_slot xs (g + k) (omega arith) ∙ cell_at xs g k f h c in
    subst (λ o. IsSomeAnd o (λ (b : Byte). b.mark ≡ pair_if (((get_or xs g absent).kind - 64) % 2) (get_or xs g absent).mark k)) (sym s) refl

-- what a cell is seen as
pub cell_seen : (xs : List Packed) (g : ℕ) → g % 8 ≡ 0 → g < 256 → 64 ≤ (get_or xs g absent).kind → (get_or xs g absent).index ≡ 1 → IsCell (page_bytes xs) g (get_or xs (g + 1) absent).name (name_in (((get_or xs g absent).kind - 64) / 2) (get_or xs g absent).name)
cell_seen xs g f w c e = λ k h.
    let s : slot_at (page_bytes xs) (g + k) ≡ Some (cell_byte (get_or xs g absent) (get_or xs (g + 1) absent).name k) =
    seen_slot xs (g + k) (omega arith) ∙ cell_at xs g k f h c in
    subst (λ o. IsSomeAnd o (IsByteOf (get_or xs (g + 1) absent).name (name_in (((get_or xs g absent).kind - 64) / 2) (get_or xs g absent).name) k)) (sym s) (refl, refl, ap (λ d. number_if d k) e)

-- the number that a cell without a name is seen as
pub eight_seen : (xs : List Packed) (g : ℕ) → g % 8 ≡ 0 → g < 256 → 64 ≤ (get_or xs g absent).kind → (get_or xs g absent).kind ≤ 65 → IsNumber (page_bytes xs) g 8 (get_or xs (g + 1) absent).name
eight_seen xs g f w c l = λ k h.
    let s : slot_at (page_bytes xs) (g + k) ≡ Some (cell_byte (get_or xs g absent) (get_or xs (g + 1) absent).name k) =
    seen_slot xs (g + k) (omega arith) ∙ cell_at xs g k f h c in
    let nameless : ((get_or xs g absent).kind - 64) / 2 ≡ 0 = omega (arith, c, l) in
    subst (λ o. IsSomeAnd o (IsNameless (digit_at (get_or xs (g + 1) absent).name k))) (sym s) (refl, ap (λ d. name_in d (get_or xs g absent).name) nameless)

-- eight places that begin at a multiple of 8, kept apart
pub group_at : (xs ys : List Packed) (g k : ℕ) → g % 8 ≡ 0 → k < 8 → ((j : ℕ) → j < 8 → get_or ys j absent ≡ get_or xs (g + j) absent) → seen_at ys k ≡ seen_at xs (g + k)
group_at xs ys g k first h same =
    let at_first : g + first_of k ≡ first_of (g + k) = omega (arith, first, h) in
    let at_next : g + (first_of k + 1) ≡ first_of (g + k) + 1 = omega (arith, first, h) in
    let at_four : g + four_of k ≡ four_of (g + k) = omega (arith, first, h) in
    let head : get_or ys (first_of k) absent ≡ get_or xs (first_of (g + k)) absent = same (first_of k) (omega (arith, h)) ∙ ap (λ j. get_or xs j absent) at_first in
    let next : get_or ys (first_of k + 1) absent ≡ get_or xs (first_of (g + k) + 1) absent = same (first_of k + 1) (omega (arith, h)) ∙ ap (λ j. get_or xs j absent) at_next in
    let four : get_or ys (four_of k) absent ≡ get_or xs (four_of (g + k)) absent = same (four_of k) (omega (arith, h)) ∙ ap (λ j. get_or xs j absent) at_four in
    let here : get_or ys k absent ≡ get_or xs (g + k) absent = same k h in
    let in_eight : k % 8 ≡ (g + k) % 8 = omega (arith, first) in
    let in_four : k % 4 ≡ (g + k) % 4 = omega (arith, first) in
    λ i. cell_or (head i) (next i).name (in_eight i) (number_or (four i) (in_four i) (here i))

pub group_seen : (xs ys : List Packed) (g k : ℕ) → g % 8 ≡ 0 → g < 256 → k < 8 → ((j : ℕ) → j < 8 → get_or ys j absent ≡ get_or xs (g + j) absent) → seen_at ys k ≡ slot_at (page_bytes xs) (g + k)
group_seen xs ys g k first within h same = group_at xs ys g k first h same ∙ sym (seen_slot xs (g + k) (omega (arith, first, within, h)))

-- they replace those of another place
module _ (xs ys zs : List Packed) (g : ℕ) (first : g % 8 ≡ 0) (within : g < 256)
    (same : (j : ℕ) → j < 8 → get_or ys (g + j) absent ≡ get_or zs j absent)
    (others : (q : ℕ) → IsOutside g 8 q → get_or ys q absent ≡ get_or xs q absent) where
  in_group : (q k : ℕ) → k < 8 → q ≡ g + k → seen_at ys q ≡ slot_at (with_slots (page_bytes xs) g (seen_from 8 0 zs)) q
  in_group q k h e =
      let z : 0 + k ≡ k = omega arith in
      ap (seen_at ys) e ∙ sym (group_at ys zs g k first h (λ j l. sym (same j l)))
      ∙ sym (at_from 8 0 zs k h ∙ ap (seen_at zs) z)
      ∙ sym (ap (slot_at (with_slots (page_bytes xs) g (seen_from 8 0 zs))) e ∙ with_slots_in (page_bytes xs) g (seen_from 8 0 zs) k (omega (arith, length_from 8 0 zs, seen_length xs, first, within)) (omega (arith, length_from 8 0 zs, h)))

  apart_head : (q : ℕ) → IsOutside g 8 q → IsOutside g 8 (first_of q)
  apart_head q (inl l) = inl (omega (arith, l))
  apart_head q (inr r) = inr (omega (arith, r, first))

  apart_next : (q : ℕ) → IsOutside g 8 q → IsOutside g 8 (first_of q + 1)
  apart_next q (inl l) = inl (omega (arith, l, first))
  apart_next q (inr r) = inr (omega (arith, r, first))

  apart_four : (q : ℕ) → IsOutside g 8 q → IsOutside g 8 (four_of q)
  apart_four q (inl l) = inl (omega (arith, l))
  apart_four q (inr r) = inr (omega (arith, r, first))

  out_of_group : (q : ℕ) → q < 256 → IsOutside g 8 q → seen_at ys q ≡ slot_at (with_slots (page_bytes xs) g (seen_from 8 0 zs)) q
  out_of_group q h o =
      three xs ys q (others (first_of q) (apart_head q o)) (others (first_of q + 1) (apart_next q o)) (two xs ys q (others (four_of q) (apart_four q o)) (others q o))
      ∙ sym (with_slots_out (page_bytes xs) g (seen_from 8 0 zs) q (subst (λ m. IsOutside g m q) (sym (length_from 8 0 zs)) o) ∙ seen_slot xs q h)

  pub group_laid : page_bytes ys ≡ with_slots (page_bytes xs) g (seen_from 8 0 zs)
  group_laid = seen_is ys (with_slots (page_bytes xs) g (seen_from 8 0 zs)) (length_with (page_bytes xs) g (seen_from 8 0 zs) ∙ seen_length xs)
      (λ q h. ⊎_elim (λ w. in_group q w.0 w.1 w.2) (λ o. out_of_group q h o) (place_of g 8 q))
