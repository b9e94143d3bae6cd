-- The steps of the loops that read and write the bytes of a number in a page.
use Rattle.std.proofs.Common.{◌≡◌, ℕ, zero, suc, ◌+◌, ◌-◌, ◌*◌, ◌/◌, ◌%◌, ◌<◌, true, false, ◌&&◌, ◌==◌, Bool, cond, List, [], ◌∷◌, length, map, set, get_or, drop, drop-cons, Option, Some, None, IsSomeAnd, refl, sym, ap, ◌∙◌, subst, arith}
use Rattle.std.proofs.lemmas.Option.{same_Some}
use Rattle.std.specs.FinMap.{insert}
use Rattle.pv_prov.specs.declared.names.Prov.TheVariants.{Empty}
use Rattle.pv_shadow.specs.declared.byte.Byte.{Byte}
use Rattle.pv_shadow.specs.declared.packed.Packed.{Packed}
use Rattle.pv_shadow.specs.Bytes.{Store, blank_byte, with_bytes_at}
use Rattle.pv_shadow.specs.Packed.{digit_at, number_byte, pair_if, IsNameless}
use Rattle.pv_shadow.specs.Pages.{slot_at, with_slots}
use Rattle.pv_shadow.specs.Whole.{little_endian, mark_at, number_bytes}
use Rattle.pv_shadow.specs.Readings.{has_mark, are_marked}

-- one byte more in front
pub digits_more : (xs : List (Option Byte)) (i k n v m : ℕ) → 0 < k → v < 256 → IsSomeAnd (slot_at xs (i + (k - 1))) (IsNameless v)
    → ((j : ℕ) → k + j < n → IsSomeAnd (slot_at xs (i + (k + j))) (IsNameless (digit_at m j)))
    → (j : ℕ) → (k - 1) + j < n → IsSomeAnd (slot_at xs (i + ((k - 1) + j))) (IsNameless (digit_at (m * 256 + v) j))
digits_more xs i k n v m some low first rest zero within =
    let e : i + (k - 1) ≡ i + ((k - 1) + 0) = omega arith in
    let d : v ≡ (m * 256 + v) % 256 = omega (arith, low) in
    subst (λ q. IsSomeAnd (slot_at xs q) (IsNameless (digit_at (m * 256 + v) 0))) e (subst (λ q. IsSomeAnd (slot_at xs (i + (k - 1))) (IsNameless q)) d first)
digits_more xs i k n v m some low first rest (suc j) within =
    let e : i + (k + j) ≡ i + ((k - 1) + suc j) = omega (arith, some) in
    let d : m ≡ (m * 256 + v) / 256 = omega (arith, low) in
    let h : k + j < n = omega (arith, some, within) in
    subst (λ q. IsSomeAnd (slot_at xs q) (IsNameless (digit_at (m * 256 + v) (suc j)))) e (subst (λ q. IsSomeAnd (slot_at xs (i + (k + j))) (IsNameless (digit_at q j))) d (rest j h))

-- byte j of a number, of which r is left from that byte on
abbrev pub byte_of : Option ℕ → ℕ → ℕ → Byte
byte_of mark j r = record { value = Some (r % 256); prov = Empty; index = None; mark = mark_at mark j }

next_digits : (mark : Option ℕ) (n k r : ℕ) → k < n → number_bytes mark k (little_endian (n - k) r) ≡ byte_of mark k r ∷ number_bytes mark (k + 1) (little_endian (n - (k + 1)) (r / 256))
next_digits mark n k r h = let e : n - k ≡ suc (n - (k + 1)) = omega arith in ap (λ t. number_bytes mark k (little_endian t r)) e

pub number_step : (xs : List (Option Byte)) (i n k r : ℕ) (mark : Option ℕ) → k < n
    → with_slots (set xs (i + k) (Some (byte_of mark k r))) (i + (k + 1)) (map Some (number_bytes mark (k + 1) (little_endian (n - (k + 1)) (r / 256)))) ≡ with_slots xs (i + k) (map Some (number_bytes mark k (little_endian (n - k) r)))
number_step xs i n k r mark h =
    let f : (i + k) + 1 ≡ i + (k + 1) = omega arith in
    sym (ap (λ bs. with_slots xs (i + k) (map Some bs)) (next_digits mark n k r h)
    ∙ ap (λ t. with_slots (set xs (i + k) (Some (byte_of mark k r))) t (map Some (number_bytes mark (k + 1) (little_endian (n - (k + 1)) (r / 256))))) f)

pub written_step : (m : Store) (a n k r : ℕ) (mark : Option ℕ) → k < n
    → with_bytes_at (insert m (a + k) (byte_of mark k r)) (a + (k + 1)) (number_bytes mark (k + 1) (little_endian (n - (k + 1)) (r / 256))) ≡ with_bytes_at m (a + k) (number_bytes mark k (little_endian (n - k) r))
written_step m a n k r mark h =
    let f : (a + k) + 1 ≡ a + (k + 1) = omega arith in
    sym (ap (with_bytes_at m (a + k)) (next_digits mark n k r h)
    ∙ ap (λ t. with_bytes_at (insert m (a + k) (byte_of mark k r)) t (number_bytes mark (k + 1) (little_endian (n - (k + 1)) (r / 256)))) f)

pub plain_long : (mark : Option ℕ) (j n r : ℕ) → length (number_bytes mark j (little_endian n r)) ≡ n
plain_long mark j zero r = refl
plain_long mark j (suc n) r = ap suc (plain_long mark (j + 1) n (r / 256))

-- the marks of bytes, one after the other
marked_next : (bs : List Byte) (t k : ℕ) → k < length bs → are_marked (drop k bs) t k ≡ (has_mark (get_or bs k blank_byte).mark t k && are_marked (drop (k + 1) bs) t (k + 1))
marked_next bs t k h =
    let e : suc k ≡ k + 1 = omega arith in
    ap (λ xs. are_marked xs t k) (drop-cons bs k blank_byte h ∙ ap (λ j. get_or bs k blank_byte ∷ drop j bs) e)

pub marked_step : (bs : List Byte) (t k : ℕ) (b : Byte) → k < length bs → b ≡ get_or bs k blank_byte → has_mark b.mark t k ≡ true → are_marked (drop (k + 1) bs) t (k + 1) ≡ are_marked (drop k bs) t k
marked_step bs t k b h e m =
    sym (marked_next bs t k h ∙ ap (λ (x : Byte). has_mark x.mark t k && are_marked (drop (k + 1) bs) t (k + 1)) (sym e) ∙ ap (λ c. c && are_marked (drop (k + 1) bs) t (k + 1)) m)

pub marked_stop : (bs : List Byte) (t k : ℕ) (b : Byte) → k < length bs → b ≡ get_or bs k blank_byte → has_mark b.mark t k ≡ false → false ≡ are_marked (drop k bs) t k
marked_stop bs t k b h e m =
    sym (marked_next bs t k h ∙ ap (λ (x : Byte). has_mark x.mark t k && are_marked (drop (k + 1) bs) t (k + 1)) (sym e) ∙ ap (λ c. c && are_marked (drop (k + 1) bs) t (k + 1)) m)

-- the marks of the four bytes of one number are those of one store, or none of them is
each_same : (b : Bool) → (b && true) ≡ ((b && true) && ((b && true) && ((b && true) && ((b && true) && true))))
each_same true = refl
each_same false = refl

marked_four : (given : Bool) (m t : ℕ) → has_mark (cond given (Some (m, 0)) None) t 0
    ≡ (has_mark (cond given (Some (m, 0)) None) t 0 && (has_mark (cond given (Some (m, 1)) None) t 1 && (has_mark (cond given (Some (m, 2)) None) t 2 && (has_mark (cond given (Some (m, 3)) None) t 3 && true))))
marked_four true m t = each_same (m == t)
marked_four false m t = refl

pub four_marked : (h : Packed) (bs : List Byte) (t : ℕ) → length bs ≡ 4 → ((k : ℕ) → k < 4 → Some (number_byte h k) ≡ Some (get_or bs k blank_byte)) → has_mark (pair_if (h.kind - 48) h.mark 0) t 0 ≡ are_marked bs t 0
four_marked h [] t l f = absurd (omega (arith, l))
four_marked h (x ∷ []) t l f = absurd (omega (arith, l))
four_marked h (x ∷ y ∷ []) t l f = absurd (omega (arith, l))
four_marked h (x ∷ y ∷ z ∷ []) t l f = absurd (omega (arith, l))
four_marked h (x ∷ y ∷ z ∷ w ∷ []) t l f =
    let a : number_byte h 0 ≡ x = same_Some _ _ (f 0 (omega arith)) in
    let b : number_byte h 1 ≡ y = same_Some _ _ (f 1 (omega arith)) in
    let c : number_byte h 2 ≡ z = same_Some _ _ (f 2 (omega arith)) in
    let d : number_byte h 3 ≡ w = same_Some _ _ (f 3 (omega arith)) in
    marked_four ((h.kind - 48) == 1) h.mark t
    ∙ (λ i. has_mark (a i).mark t 0 && (has_mark (b i).mark t 1 && (has_mark (c i).mark t 2 && (has_mark (d i).mark t 3 && true))))
four_marked h (x ∷ y ∷ z ∷ w ∷ v ∷ bs) t l f = absurd (omega (arith, l))

-- the marks of the eight bytes of one pointer are those of one store, or none of them is
each_of_eight : (b : Bool) → (b && true) ≡ ((b && true) && ((b && true) && ((b && true) && ((b && true) && ((b && true) && ((b && true) && ((b && true) && ((b && true) && true))))))))
each_of_eight true = refl
each_of_eight false = refl

marked_eight : (given : Bool) (m t : ℕ) → has_mark (cond given (Some (m, 0)) None) t 0
    ≡ (has_mark (cond given (Some (m, 0)) None) t 0 && (has_mark (cond given (Some (m, 1)) None) t 1 && (has_mark (cond given (Some (m, 2)) None) t 2 && (has_mark (cond given (Some (m, 3)) None) t 3
    && (has_mark (cond given (Some (m, 4)) None) t 4 && (has_mark (cond given (Some (m, 5)) None) t 5 && (has_mark (cond given (Some (m, 6)) None) t 6 && (has_mark (cond given (Some (m, 7)) None) t 7 && true))))))))
marked_eight true m t = each_of_eight (m == t)
marked_eight false m t = refl

pub eight_marked : (h : Packed) (bs : List Byte) (t : ℕ) → length bs ≡ 8 → ((k : ℕ) → k < 8 → (get_or bs k blank_byte).mark ≡ pair_if ((h.kind - 64) % 2) h.mark k) → has_mark (pair_if ((h.kind - 64) % 2) h.mark 0) t 0 ≡ are_marked bs t 0
eight_marked h [] t l f = absurd (omega (arith, l))
eight_marked h (a ∷ []) t l f = absurd (omega (arith, l))
eight_marked h (a ∷ b ∷ []) t l f = absurd (omega (arith, l))
eight_marked h (a ∷ b ∷ c ∷ []) t l f = absurd (omega (arith, l))
eight_marked h (a ∷ b ∷ c ∷ d ∷ []) t l f = absurd (omega (arith, l))
eight_marked h (a ∷ b ∷ c ∷ d ∷ v ∷ []) t l f = absurd (omega (arith, l))
eight_marked h (a ∷ b ∷ c ∷ d ∷ v ∷ w ∷ []) t l f = absurd (omega (arith, l))
eight_marked h (a ∷ b ∷ c ∷ d ∷ v ∷ w ∷ x ∷ []) t l f = absurd (omega (arith, l))
eight_marked h (a ∷ b ∷ c ∷ d ∷ v ∷ w ∷ x ∷ y ∷ []) t l f =
    let digit : ℕ = (h.kind - 64) % 2 in
    let m0 : pair_if digit h.mark 0 ≡ a.mark = sym (f 0 (omega arith)) in
    let m1 : pair_if digit h.mark 1 ≡ b.mark = sym (f 1 (omega arith)) in
    let m2 : pair_if digit h.mark 2 ≡ c.mark = sym (f 2 (omega arith)) in
    let m3 : pair_if digit h.mark 3 ≡ d.mark = sym (f 3 (omega arith)) in
    let m4 : pair_if digit h.mark 4 ≡ v.mark = sym (f 4 (omega arith)) in
    let m5 : pair_if digit h.mark 5 ≡ w.mark = sym (f 5 (omega arith)) in
    let m6 : pair_if digit h.mark 6 ≡ x.mark = sym (f 6 (omega arith)) in
    let m7 : pair_if digit h.mark 7 ≡ y.mark = sym (f 7 (omega arith)) in
    marked_eight (digit == 1) h.mark t
    ∙ (λ i. has_mark (m0 i) t 0 && (has_mark (m1 i) t 1 && (has_mark (m2 i) t 2 && (has_mark (m3 i) t 3 && (has_mark (m4 i) t 4 && (has_mark (m5 i) t 5 && (has_mark (m6 i) t 6 && (has_mark (m7 i) t 7 && true))))))))
eight_marked h (a ∷ b ∷ c ∷ d ∷ v ∷ w ∷ x ∷ y ∷ z ∷ bs) t l f = absurd (omega (arith, l))
