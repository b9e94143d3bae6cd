-- Abstract bytes stay fair: what is read, taken and written, and what numbers and names they make (C17 6.2.6.1).
use Rattle.std.proofs.Common.{◌≡◌, ℕ, zero, suc, ◌+◌, ◌*◌, ◌-◌, ◌/◌, ◌%◌, ◌<◌, ◌≤◌, ◌^◌, Bool, true, false, ◌&&◌, cond, List, [], ◌∷◌, length, take, drop, Option, Some, None, refl, sym, ap, ◌∙◌, subst, arith, ◌⊎◌, inl, inr, ◌≢◌}
use Rattle.std.specs.Prelude.{unwrap_or}
use Rattle.std.specs.Option.{option_map, option_and_then}
use Rattle.std.specs.FinMap.{get, insert, remove}
use Rattle.std.proofs.lemmas.Option.{none-some}
use Rattle.std.proofs.lemmas.Bool.{false≢true}
use Rattle.std.proofs.lemmas.Bool.Decides.{nat_tests}
use Rattle.pv_num.specs.Kinds.{width, bits_of}
use Rattle.pv_prov.specs.declared.names.Prov.{Prov}
use Rattle.pv_prov.specs.declared.names.Prov.TheVariants.{Empty, Inst, Pair}
use Rattle.pv_prov.specs.Names.{is_empty, same_name}
use Rattle.pv_inst.specs.Table.{Table, IsMadeIn}
use Rattle.pv_inst.proofs.Apartness.{same_or_not}
use Rattle.pv_shadow.specs.declared.byte.Byte.{Byte}
use Rattle.pv_shadow.specs.Bytes.{Store, blank_byte, bytes_from, with_bytes_at, with_blanks, without_bytes}
use Rattle.pv_shadow.specs.Whole.{little_endian, number_of, number_bytes, pointer_bytes, values_of, has_index, is_whole, whole_name, mark_at, number_in}
use Rattle.pv_shadow.proofs.Ranges.{get-insert_other, get-insert_here, get-remove_other, get-remove_here}
use Rattle.pv_object.specs.declared.values.Scalar.{Scalar}
use Rattle.pv_object.specs.declared.values.Scalar.TheVariants as scalar
use Rattle.pv_object.specs.declared.values.Value.{Value}
use Rattle.pv_object.specs.declared.values.Value.TheVariants.{Int as IntValue, Unset, Pointer as PointerValue}
use Rattle.pv_object.specs.Encoding.{encode}
use Rattle.pv_object.specs.EncodingParts.{unset_byte}
use Rattle.pv_typed.specs.Known.{Each}
use Rattle.pv_guards.specs.Fair.{IsFair, AreFair, IsFairPointer, IsFairValue}

-- names that were made are made in the later table
abbrev pub Keeps : Table → Table → Type 0
Keeps T U = (p : Prov) → IsMadeIn T p → IsMadeIn U p

module _ (T U : Table) (later : Keeps T U) where
  pub byte-later : (x : Byte) → IsFair T x → IsFair U x
  byte-later x h = record { value = h.value; named = later x.prov h.named; high = h.high }

  pub bytes-later : (bs : List Byte) → Each (IsFair T) bs → Each (IsFair U) bs
  bytes-later [] h = tt
  bytes-later (b ∷ bs) h = (byte-later b h.0, bytes-later bs h.1)

  pub store-later : (m : Store) → AreFair T m → AreFair U m
  store-later m h a x e = byte-later x (h a x e)

-- a byte without value
pub unset-fair : (T : Table) (x : Byte) → x.value ≡ None → IsMadeIn T x.prov → IsFair T x
unset-fair T x e n = record {
  value = λ v f. absurd (none-some v (sym e ∙ f));
  named = n;
  high = λ i v p j f l. absurd (none-some v (sym e ∙ f));
}

-- one of a value without a name
pub nameless-fair : (T : Table) (x : Byte) (v : ℕ) → x.value ≡ Some v → v < 256 → x.prov ≡ Empty → IsFair T x
nameless-fair T x v e l n = record {
  value = λ w f. let s : Some w ≡ Some v = sym f ∙ e in let same : w ≡ v = cc in omega (arith, l);
  named = subst (λ p. IsMadeIn T p) (sym n) tt;
  high = λ i w p j f k. let q : true ≡ false = sym (ap is_empty n) ∙ p in absurd (cc);
}

pub blank-fair : (T : Table) → IsFair T blank_byte
blank-fair T = unset-fair T blank_byte refl tt

module _ (T : Table) where
  -- what is read, and parts of it
  byte-read : (o : Option Byte) → ((x : Byte) → o ≡ Some x → IsFair T x) → IsFair T (unwrap_or o blank_byte)
  byte-read None h = blank-fair T
  byte-read (Some x) h = h x refl

  pub read-fair : (m : Store) (a n : ℕ) → AreFair T m → Each (IsFair T) (bytes_from m a n)
  unfolding bytes_from
  read-fair m a zero h = tt
  read-fair m a (suc n) h = (byte-read (get m a) (h a), read-fair m (a + 1) n h)

  pub drop-fair : (n : ℕ) (bs : List Byte) → Each (IsFair T) bs → Each (IsFair T) (drop n bs)
  drop-fair zero bs h = h
  drop-fair (suc n) [] h = tt
  drop-fair (suc n) (b ∷ bs) h = drop-fair n bs h.1

  pub take-fair : (n : ℕ) (bs : List Byte) → Each (IsFair T) bs → Each (IsFair T) (take n bs)
  take-fair zero bs h = tt
  take-fair (suc n) [] h = tt
  take-fair (suc n) (b ∷ bs) h = (h.0, take-fair n bs h.1)

  -- one byte more, or one less
  insert-fair : (m : Store) (k : ℕ) (b : Byte) → AreFair T m → IsFair T b → AreFair T (insert m k b)
  insert-fair m k b h f a x e = by (same_or_not a k)
    where
      by : (a ≡ k) ⊎ (a ≢ k) → IsFair T x
      by (inl s) = let q : Some b ≡ Some x = sym (get-insert_here m k b a s) ∙ e in let r : b ≡ x = cc in subst (IsFair T) r f
      by (inr n) = h a x (sym (get-insert_other m k b a n) ∙ e)

  remove-fair : (m : Store) (k : ℕ) → AreFair T m → AreFair T (remove m k)
  remove-fair m k h a x e = by (same_or_not a k)
    where
      by : (a ≡ k) ⊎ (a ≢ k) → IsFair T x
      by (inl s) = absurd (none-some x (sym (get-remove_here m k a s) ∙ e))
      by (inr n) = h a x (sym (get-remove_other m k a n) ∙ e)

  pub written-fair : (m : Store) (a : ℕ) (bs : List Byte) → AreFair T m → Each (IsFair T) bs → AreFair T (with_bytes_at m a bs)
  written-fair m a [] h f = h
  written-fair m a (b ∷ bs) h f = written-fair (insert m a b) (a + 1) bs (insert-fair m a b h f.0) f.1

  pub spread-fair : (m : Store) (a n : ℕ) → AreFair T m → AreFair T (with_blanks m a n)
  spread-fair m a zero h = h
  spread-fair m a (suc n) h = spread-fair (insert m a blank_byte) (a + 1) n (insert-fair m a blank_byte h (blank-fair T))

  pub cleared-fair : (m : Store) (a n : ℕ) → AreFair T m → AreFair T (without_bytes m a n)
  cleared-fair m a zero h = h
  cleared-fair m a (suc n) h = cleared-fair (remove m a) (a + 1) n (remove-fair m a h)

  -- the bytes of a number
  pub plain-fair : (mark : Option ℕ) (j : ℕ) (vs : List ℕ) → Each (λ (v : ℕ). v < 256) vs → Each (IsFair T) (number_bytes mark j vs)
  plain-fair mark j [] h = tt
  plain-fair mark j (v ∷ vs) h = (nameless-fair T _ v refl h.0 refl, plain-fair mark (j + 1) vs h.1)

  below-256 : (n : ℕ) → n % 256 < 256
  below-256 n = omega arith

  pub little-small : (k n : ℕ) → Each (λ (v : ℕ). v < 256) (little_endian k n)
  little-small zero n = tt
  little-small (suc k) n = (below-256 n, little-small k (n / 256))

  -- those of a pointer: the last two are 0 where it has a name
  pointer-byte : (p : Prov) (j v : ℕ) (mark : Option (ℕ × ℕ)) → IsMadeIn T p → v < 256 → (is_empty p ≡ false → 6 ≤ j → v ≡ 0) → IsFair T (record { value = Some v; prov = p; index = Some j; mark = mark })
  pointer-byte p j v mark n l z = record {
    value = λ w e. let same : v ≡ w = cc in omega (arith, l);
    named = n;
    high = λ i w q f e k. let at : j ≡ i = cc in let same : v ≡ w = cc in sym same ∙ z q (omega (arith, k));
  }

  no-high : (p : Prov) (j v : ℕ) → j < 6 → is_empty p ≡ false → 6 ≤ j → v ≡ 0
  no-high p j v l q k = absurd (omega (arith, l, k))

  seventh : (a : ℕ) → a < 2 ^ 48 → a / 256 / 256 / 256 / 256 / 256 / 256 % 256 ≡ 0
  seventh a h = omega (arith, h)

  eighth : (a : ℕ) → a < 2 ^ 48 → a / 256 / 256 / 256 / 256 / 256 / 256 / 256 % 256 ≡ 0
  eighth a h = omega (arith, h)

  pub pointed-fair : (mark : Option ℕ) (p : Prov) (a : ℕ) → IsMadeIn T p → (is_empty p ≡ false → a < 2 ^ 48) → Each (IsFair T) (pointer_bytes mark p 0 (little_endian 8 a))
  pointed-fair mark p a n l =
      let byte : (j v : ℕ) → v < 256 → (is_empty p ≡ false → 6 ≤ j → v ≡ 0) → IsFair T (record { value = Some v; prov = p; index = Some j; mark = mark_at mark j }) = λ j v l z. pointer-byte p j v (mark_at mark j) n l z in
      (byte 0 (a % 256) (below-256 _) (no-high p 0 _ (omega arith)), (byte 1 (a / 256 % 256) (below-256 _) (no-high p 1 _ (omega arith)), (byte 2 (a / 256 / 256 % 256) (below-256 _) (no-high p 2 _ (omega arith)), (byte 3 (a / 256 / 256 / 256 % 256) (below-256 _) (no-high p 3 _ (omega arith)), (byte 4 (a / 256 / 256 / 256 / 256 % 256) (below-256 _) (no-high p 4 _ (omega arith)), (byte 5 (a / 256 / 256 / 256 / 256 / 256 % 256) (below-256 _) (no-high p 5 _ (omega arith)), (byte 6 (a / 256 / 256 / 256 / 256 / 256 / 256 % 256) (below-256 _) (λ q k. seventh a (l q)), (byte 7 (a / 256 / 256 / 256 / 256 / 256 / 256 / 256 % 256) (below-256 _) (λ q k. eighth a (l q)), tt))))))))

  -- those of every scalar
  pub encode-fair : (t : Scalar) (v : Value) (mark : Option ℕ) → IsFairValue T v → Each (IsFair T) (encode t v mark)
  encode-fair (scalar.Int k) (IntValue n) mark h = plain-fair mark 0 (little_endian (width k / 8) (bits_of k n)) (little-small (width k / 8) (bits_of k n))
  encode-fair (scalar.Int k) Unset mark h = (unset-fair T (unset_byte mark) refl tt, tt)
  encode-fair (scalar.Int k) (PointerValue p) mark h = tt
  encode-fair scalar.Pointer (PointerValue p) mark h = pointed-fair mark p.prov p.address h.0 h.1
  encode-fair scalar.Pointer (IntValue n) mark h = tt
  encode-fair scalar.Pointer Unset mark h = tt

  -- so many bytes have less than so many numbers
  abbrev limit : ℕ → ℕ
  limit zero = 1
  limit (suc n) = 256 * limit n

  one-more : (v n k : ℕ) → v < 256 → n < k → v + 256 * n < 256 * k
  one-more v n k l h = omega (arith, l, h)

  valued : (b : Byte) (bs : List Byte) (n : ℕ) (o : Option ℕ) (r : Option (List ℕ)) → option_map number_of (option_and_then (λ v. option_map (λ vs. v ∷ vs) r) o) ≡ Some n → (v : ℕ) × (m : ℕ) × (o ≡ Some v) × (option_map number_of r ≡ Some m) × (n ≡ v + 256 * m)
  valued b bs n None r e = absurd (none-some n e)
  valued b bs n (Some v) None e = absurd (none-some n e)
  valued b bs n (Some v) (Some vs) e = let same : v + 256 * number_of vs ≡ n = cc in (v, number_of vs, refl, refl, sym same)

  number-limit : (bs : List Byte) (n : ℕ) → Each (IsFair T) bs → number_in bs ≡ Some n → n < limit (length bs)
  number-limit [] n h e = let same : 0 ≡ n = cc in omega (arith)
  number-limit (b ∷ bs) n h e =
      let r = valued b bs n b.value (values_of bs) e in
      let l = h.0.value r.0 r.2 in
      let q = number-limit bs r.1 h.1 r.3 in
      subst (λ m. m < 256 * limit (length bs)) (sym r.4) (one-more r.0 r.1 (limit (length bs)) l q)

  pub number-small : (bs : List Byte) (n : ℕ) → length bs ≡ 8 → Each (IsFair T) bs → number_in bs ≡ Some n → n < 2 ^ 64
  number-small bs n e h f = subst (λ k. n < limit k) e (number-limit bs n h f)

  limit-some : (r : ℕ) → 0 < limit r
  limit-some zero = omega arith
  limit-some (suc r) = let h = limit-some r in omega (arith, h)

  both-left : (a b : Bool) → (a && b) ≡ true → a ≡ true
  both-left true b e = refl
  both-left false b e = e

  both-right : (a b : Bool) → (a && b) ≡ true → b ≡ true
  both-right true b e = e
  both-right false b e = absurd (false≢true e)

  indexed : (o : Option ℕ) (j : ℕ) → has_index o j ≡ true → o ≡ Some j
  indexed None j e = absurd (false≢true e)
  indexed (Some i) j e = let same : i ≡ j = grind (arith, nat_tests) in ap Some same

  named-by : (p q : Prov) → same_name p q ≡ true → is_empty q ≡ false → is_empty p ≡ false
  named-by Empty Empty e f = f
  named-by Empty (Inst j) e f = absurd (false≢true e)
  named-by Empty (Pair m) e f = absurd (false≢true e)
  named-by (Inst i) q e f = refl
  named-by (Pair k) q e f = refl

  -- those of one pointer with a name, from byte j on
  whole-limit : (p : Prov) (r j : ℕ) (bs : List Byte) (n : ℕ) → r ≡ 6 - j → is_empty p ≡ false → is_whole p j bs ≡ true → Each (IsFair T) bs → number_in bs ≡ Some n → n < limit r
  whole-limit p r j [] n e q w h f = let same : 0 ≡ n = cc in subst (λ m. m < limit r) same (limit-some r)
  whole-limit p zero j (b ∷ bs) n e q w h f =
      let x = valued b bs n b.value (values_of bs) f in
      let here = both-left (same_name b.prov p && has_index b.index j) (is_whole p (j + 1) bs) w in
      let there = both-right (same_name b.prov p && has_index b.index j) (is_whole p (j + 1) bs) w in
      let name = named-by b.prov p (both-left (same_name b.prov p) (has_index b.index j) here) q in
      let index = indexed b.index j (both-right (same_name b.prov p) (has_index b.index j) here) in
      let z = h.0.high j x.0 name index x.2 (omega (arith, e)) in
      let m = whole-limit p zero (j + 1) bs x.1 (omega (arith, e)) q there h.1 x.3 in
      subst (λ k. k < 1) (sym x.4) (omega (arith, z, m))
  whole-limit p (suc r) j (b ∷ bs) n e q w h f =
      let x = valued b bs n b.value (values_of bs) f in
      let there = both-right (same_name b.prov p && has_index b.index j) (is_whole p (j + 1) bs) w in
      let l = h.0.value x.0 x.2 in
      let m = whole-limit p r (j + 1) bs x.1 (omega (arith, e)) q there h.1 x.3 in
      subst (λ k. k < 256 * limit r) (sym x.4) (one-more x.0 x.1 (limit r) l m)

  named-if : (c : Bool) (p q : Prov) → cond c (Some p) None ≡ Some q → (c ≡ true) × (p ≡ q)
  named-if true p q e = (refl, cc)
  named-if false p q e = absurd (none-some q e)

  -- 6.2.6.1: the pointer that bytes are which were stored as one
  pub whole-fair : (bs : List Byte) (p : Prov) (n : ℕ) → Each (IsFair T) bs → whole_name bs ≡ Some p → number_in bs ≡ Some n → IsFairPointer T (record { address = n; prov = p })
  whole-fair [] p n h e f = absurd (none-some p e)
  whole-fair (b ∷ bs) p n h e f =
      let r = named-if (is_whole b.prov 0 (b ∷ bs)) b.prov p e in (
        subst (λ q. IsMadeIn T q) r.1 h.0.named,
        λ q. whole-limit b.prov 6 0 (b ∷ bs) n refl (ap is_empty r.1 ∙ q) r.0 h f,
      )
