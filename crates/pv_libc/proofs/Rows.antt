-- Rows of characters that are plain: their values, what reading them does, which is nothing, and where two rows differ.
use Rattle.std.proofs.Common.{◌≡◌, ℕ, ℤ, zero, suc, pos, ◌+◌, ◌-◌, ◌/◌, ◌%◌, ◌<◌, ◌≤◌, ◌⊎◌, inl, inr, List, [], ◌∷◌, ◌++◌, sym, ap, ◌∙◌, subst, arith, append_assoc, cond, refl, IsSomeAnd, unwrap_or}
use Rattle.std.specs.Prelude.{Option}
use Rattle.std.specs.FinMap.{get}
use Rattle.std.proofs.lemmas.Bool.Decides.{nat_tests}
use Rattle.std.proofs.lemmas.List.{append-nil}
use Rattle.pv_shadow.specs.Bytes.{Store, byte_at}
use Rattle.pv_shadow.specs.Packed.{digit_at, IsNameless}
use Rattle.pv_shadow.specs.Readings.{HasDigits}
use Rattle.pv_object.specs.Memory.{Mem}
use Rattle.pv_object.specs.declared.values.Value.TheVariants as value
use Rattle.pv_libc.specs.declared.values.Note.{Note}
use Rattle.pv_libc.specs.declared.values.Given.{Given}
use Rattle.pv_libc.specs.declared.values.Reply.TheVariants as reply
use Rattle.pv_libc.specs.Steps.{Did, answer_now, next, with_notes}
use Rattle.pv_libc.specs.Characters.{characters_from}
use Rattle.pv_libc.specs.Blocks.{difference, sign_of}
use Rattle.pv_libc.specs.Ahead.{sign_or, digits_or, rows_compared}
use Rattle.pv_libc.proofs.Ahead.{character_plain, first_digit, other_digits, nameless_there}
use Rattle.pv_libc.proofs.Running.{equal_is}

-- the value of the byte at an address
abbrev pub value_at : Store → ℕ → ℕ
value_at m a = unwrap_or (byte_at m a).value 0

-- the values of n bytes from an address on
abbrev pub row_at : Store → (a n : ℕ) → List ℕ
row_at m a zero = []
row_at m a (suc n) = value_at m a ∷ row_at m (a + 1) n

-- the byte at an address has a value and no name
abbrev pub IsPlainAt : Store → ℕ → Type 0
IsPlainAt m a = (value_at m a < 256) × IsSomeAnd (get m a) (IsNameless (value_at m a))

-- so have n bytes from an address on
abbrev pub ArePlainFrom : Store → (a n : ℕ) → Type 0
ArePlainFrom m a n = (j : ℕ) → j < n → IsPlainAt m (a + j)

value_is : (m : Store) (a v : ℕ) → IsSomeAnd (get m a) (IsNameless v) → value_at m a ≡ v
value_is m a v h = let n = nameless_there v (get m a) h in ap (λ (o : Option ℕ). unwrap_or o 0) n.0

-- digits are characters
digit_small : (x j : ℕ) → digit_at x j < 256
digit_small x zero = omega arith
digit_small x (suc j) = digit_small (x / 256) j

pub digits_plain : (m : Store) (a n k : ℕ) → HasDigits m a n k → ArePlainFrom m a n
digits_plain m a n k h = λ j l.
    subst (λ (v : ℕ). (v < 256) × IsSomeAnd (get m (a + j)) (IsNameless v)) (sym (value_is m (a + j) (digit_at k j) (h j l))) (digit_small k j, h j l)

-- n bytes more
plain_by : (m : Store) (a i n j : ℕ) → (j < i) ⊎ (i ≤ j) → ArePlainFrom m a i → ArePlainFrom m (a + i) n → j < i + n → IsPlainAt m (a + j)
plain_by m a i n j (inl l) h p k = h j l
plain_by m a i n j (inr l) h p k =
    let e : (a + i) + (j - i) ≡ a + j = omega (arith, l) in
    subst (IsPlainAt m) e (p (j - i) (omega (arith, l, k)))

pub more_plain : (m : Store) (a i n : ℕ) → ArePlainFrom m a i → ArePlainFrom m (a + i) n → ArePlainFrom m a (i + n)
more_plain m a i n h p = λ j k. let o : (j < i) ⊎ (i ≤ j) = grind arith in plain_by m a i n j o h p k

-- n of them are read, behind those that were
row_read : (M : Mem) (g : Given) (a n : ℕ) (read : List ℕ) (notes : List Note) → M.table.pending ≡ [] → ArePlainFrom M.bytes a n → characters_from n g a read (with_notes M notes) ≡ answer_now (read ++ row_at M.bytes a n) (with_notes M notes)
row_read M g a zero read notes all h = ap (λ (xs : List ℕ). answer_now xs (with_notes M notes)) (sym (append-nil read))
row_read M g a (suc n) read notes all h =
    let S = with_notes M notes in
    let v = value_at M.bytes a in
    let rest = row_at M.bytes (a + 1) n in
    let here : a + 0 ≡ a = omega arith in
    let first = subst (IsPlainAt M.bytes) here (h 0 (omega arith)) in
    let others : ArePlainFrom M.bytes (a + 1) n = λ j l. let e : a + suc j ≡ (a + 1) + j = omega arith in subst (IsPlainAt M.bytes) e (h (suc j) (omega (arith, l))) in
    ap (λ (d : Did ℕ). next d (λ c T. characters_from n g (a + 1) (read ++ c ∷ []) T)) (character_plain M g a v all first.0 first.1 notes)
    ∙ row_read M g (a + 1) n (read ++ v ∷ []) notes all others
    ∙ ap (λ (xs : List ℕ). answer_now xs S) (append_assoc read (v ∷ []) rest)

-- two rows are read and compared
pub rows_plain : (M : Mem) (a b n : ℕ) → M.table.pending ≡ [] → ArePlainFrom M.bytes a n → ArePlainFrom M.bytes b n → (p q : Given) (notes : List Note)
    → rows_compared p q a b n (with_notes M notes) ≡ answer_now (reply.Value (value.Int (difference (row_at M.bytes a n) (row_at M.bytes b n)))) (with_notes M notes)
rows_plain M a b n all one other p q notes =
    let ls = row_at M.bytes a n in
    ap (λ (d : Did (List ℕ)). next d (λ xs T. next (characters_from n q b [] T) (λ ys U. answer_now (reply.Value (value.Int (difference xs ys))) U))) (row_read M p a n [] notes all one)
    ∙ ap (λ (d : Did (List ℕ)). next d (λ ys U. answer_now (reply.Value (value.Int (difference ls ys))) U)) (row_read M q b n [] notes all other)

-- the rows, before the first place
pub difference_from : (m : Store) (a b n : ℕ) → difference (row_at m (a + 0) (n - 0)) (row_at m (b + 0) (n - 0)) ≡ difference (row_at m a n) (row_at m b n)
difference_from m a b n =
    let one : a + 0 ≡ a = omega arith in
    let other : b + 0 ≡ b = omega arith in
    let all : n - 0 ≡ n = omega arith in
    λ j. difference (row_at m (one j) (all j)) (row_at m (other j) (all j))

-- equal numbers have equal digits
pub digits_same : (n x : ℕ) (rest : ℤ) → digits_or n x x rest ≡ rest
digits_same zero x rest = refl
digits_same (suc n) x rest =
    let v = x % 256 in
    ap (λ t. cond t (digits_or n (x / 256) (x / 256) rest) (sign_of v v)) (equal_is v v refl) ∙ digits_same n (x / 256) rest

-- before digit i, and behind it
pub digits_on : (n i x y : ℕ) (rest : ℤ) → i < n → digits_or (n - i) x y rest ≡ sign_or (x % 256) (y % 256) (digits_or (n - (i + 1)) (x / 256) (y / 256) rest)
digits_on n i x y rest l = let left : n - i ≡ suc (n - (i + 1)) = omega (arith, l) in ap (λ (k : ℕ). digits_or k x y rest) left

pub digits_done : (n i x y : ℕ) (rest : ℤ) → n ≤ i → digits_or (n - i) x y rest ≡ rest
digits_done n i x y rest l = let none : n - i ≡ 0 = omega (arith, l) in ap (λ (k : ℕ). digits_or k x y rest) none

-- the first k places of two rows, and those behind
row_digits : (m : Store) (a b k r x y : ℕ) → HasDigits m a k x → HasDigits m b k y
    → difference (row_at m a (k + r)) (row_at m b (k + r)) ≡ digits_or k x y (difference (row_at m (a + k) r) (row_at m (b + k) r))
row_digits m a b zero r x y g h =
    let one : a ≡ a + 0 = omega arith in
    let other : b ≡ b + 0 = omega arith in
    let all : 0 + r ≡ r = omega arith in
    λ j. difference (row_at m (one j) (all j)) (row_at m (other j) (all j))
row_digits m a b (suc k) r x y g h =
    let all : suc k + r ≡ suc (k + r) = omega arith in
    let one : (a + 1) + k ≡ a + suc k = omega arith in
    let other : (b + 1) + k ≡ b + suc k = omega arith in
    let fewer : suc k - 1 ≡ k = omega arith in
    let some : 1 ≤ suc k = omega arith in
    let left : HasDigits m (a + 1) k (x / 256) = subst (λ (n : ℕ). HasDigits m (a + 1) n (x / 256)) fewer (other_digits m a (suc k) x g) in
    let right : HasDigits m (b + 1) k (y / 256) = subst (λ (n : ℕ). HasDigits m (b + 1) n (y / 256)) fewer (other_digits m b (suc k) y h) in
    let v : value_at m a ≡ x % 256 = value_is m a (x % 256) (first_digit m a (suc k) x some g) in
    let w : value_at m b ≡ y % 256 = value_is m b (y % 256) (first_digit m b (suc k) y some h) in
    ap (λ (n : ℕ). difference (row_at m a n) (row_at m b n)) all
    ∙ (λ j. sign_or (v j) (w j) (difference (row_at m (a + 1) (k + r)) (row_at m (b + 1) (k + r))))
    ∙ ap (sign_or (x % 256) (y % 256)) (row_digits m (a + 1) (b + 1) k r (x / 256) (y / 256) left right)
    ∙ (λ j. sign_or (x % 256) (y % 256) (digits_or k (x / 256) (y / 256) (difference (row_at m (one j) r) (row_at m (other j) r))))

-- before place i, and k places on
pub difference_on : (m : Store) (a b n i k x y : ℕ) → k ≤ n - i → HasDigits m (a + i) k x → HasDigits m (b + i) k y
    → difference (row_at m (a + i) (n - i)) (row_at m (b + i) (n - i)) ≡ digits_or k x y (difference (row_at m (a + (i + k)) (n - (i + k))) (row_at m (b + (i + k)) (n - (i + k))))
difference_on m a b n i k x y l g h =
    let left : n - i ≡ k + (n - (i + k)) = omega (arith, l) in
    let one : (a + i) + k ≡ a + (i + k) = omega arith in
    let other : (b + i) + k ≡ b + (i + k) = omega arith in
    ap (λ (r : ℕ). difference (row_at m (a + i) r) (row_at m (b + i) r)) left
    ∙ row_digits m (a + i) (b + i) k (n - (i + k)) x y g h
    ∙ (λ j. digits_or k x y (difference (row_at m (one j) (n - (i + k))) (row_at m (other j) (n - (i + k)))))

-- at the end of both
pub difference_done : (m : Store) (a b n i : ℕ) → n ≤ i → difference (row_at m (a + i) (n - i)) (row_at m (b + i) (n - i)) ≡ pos 0
difference_done m a b n i l = let none : n - i ≡ 0 = omega (arith, l) in ap (λ (k : ℕ). difference (row_at m (a + i) k) (row_at m (b + i) k)) none

-- the sign of equal characters is 0
pub sign_last : (a b : ℕ) → sign_or a b (pos 0) ≡ sign_of a b
sign_last a b = grind (arith, nat_tests)
