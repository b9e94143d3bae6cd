-- A bridge: accesses found by address: a pair of a byte and of an access's number is in a set where the access touches the byte.
use Rattle.std.specs.Prelude.{◌≡◌, ℕ, ◌+◌, ◌<◌, ◌≤◌, true, false, Bool}
use Rattle.std.specs.Ordering.{nat_cmp, ordering_then}
use Rattle.std.specs.declared.cmp.Ordering.{Ordering}
use Rattle.std.specs.BTreeSet.{BTreeSet, contains}

-- the order of the pairs: by the byte, and then by the access's number
abbrev pub mark_cmp : ℕ × ℕ → ℕ × ℕ → Ordering
mark_cmp p q = ordering_then (nat_cmp p.0 q.0) (nat_cmp p.1 q.1)

-- whether the access of this number is marked at a byte
abbrev pub is_marked_at : BTreeSet (ℕ × ℕ) → ℕ → ℕ → Bool
is_marked_at s byte number = contains mark_cmp s (byte, number)

-- it is marked at all of its bytes
abbrev pub AllMarked : BTreeSet (ℕ × ℕ) → (place length number : ℕ) → Type 0
AllMarked s place length number = (i : ℕ) → i < length → is_marked_at s (place + i) number ≡ true

-- no access with a number from `start` to before `end` is marked at one of these bytes
abbrev pub NoneMarked : BTreeSet (ℕ × ℕ) → (place length start end : ℕ) → Type 0
NoneMarked s place length start end = (i n : ℕ) → i < length → start ≤ n → n < end → is_marked_at s (place + i) n ≡ false

-- no access's mark is lost
abbrev pub KeepsMarks : BTreeSet (ℕ × ℕ) → BTreeSet (ℕ × ℕ) → Type 0
KeepsMarks s t = (byte number : ℕ) → is_marked_at s byte number ≡ true → is_marked_at t byte number ≡ true
