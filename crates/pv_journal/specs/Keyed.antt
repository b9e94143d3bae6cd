-- Bridges from the code's state, in which names go by numbers, to the state that lines leave: what it tests and changes.
use Rattle.std.specs.Prelude.{◌≡◌, ℕ, ◌+◌, ◌-◌, ◌^◌, Bool, true, false, ◌&&◌, ◌||◌, ◌==◌, not, nat_lt, nat_le, List, [], ◌∷◌, ◌++◌, length, Option, Some, None, if◌then◌else◌, slice_set, slice_get, option_and_then, position, sum_by}
use Rattle.std.specs.List.{list_all, list_any}
use Rattle.pv_prov.specs.TestNumbers.{live_test, range_test, block_test, same_test, code_test}
use Rattle.pv_journal.specs.declared.line.Key.{Key}
use Rattle.pv_journal.specs.declared.held.Held.{Held}
use Rattle.pv_journal.specs.declared.bonds.Bond.{Bond}

-- the memory model: a line passed, and this is left; or it did not pass
abbrev pub Left : {A : Type 0} → Bool → A → Option A → Type 0
Left true new wanted = wanted ≡ Some new
Left false new wanted = wanted ≡ None

-- a line with so many turns may follow: turns never fall, and nothing follows a fault (3.4.3)
abbrev pub may_follow : (over : Bool) → (last turn : ℕ) → Bool
may_follow over last turn = not over && nat_le last turn

-- ---- instances

-- the memory model: two are one instance: the same number of the same name
abbrev pub same_key : Key → Key → Bool
same_key a b = a.k == b.k && a.name == b.name

-- the memory model: the instance is that of the key
abbrev pub is_of : Key → Held → Bool
is_of key h = same_key h.key key

-- the memory model: the instance has another name, or a number below
abbrev pub exceeded_by : Key → Held → Bool
exceeded_by key h = not (h.key.name == key.name) || nat_lt h.key.k key.k

-- 6.2.4p2: a live instance shares a byte with [base, base + size)
abbrev pub shares_bytes : (base size : ℕ) → Held → Bool
shares_bytes base size h = h.live && (nat_lt h.base (base + size) && nat_lt base (h.base + h.size))

-- 6.2.4p2: what an instance adds to the bytes that are reserved
abbrev pub live_size : Held → ℕ
live_size x = if x.live then x.size else 0

-- 6.2.4p2: the instance at a place ends; the memory model: it is exposed for the first time
abbrev pub ended_at : List Held → ℕ → Held → Option (List Held)
ended_at xs i x = if x.live then Some (slice_set xs i (record x { live = false })) else None

abbrev pub exposed_at : List Held → ℕ → Held → Option (List Held)
exposed_at xs i x = if x.live && not x.exposed then Some (slice_set xs i (record x { exposed = true })) else None

abbrev pub at_place : List Held → (List Held → ℕ → Held → Option (List Held)) → ℕ → Option (List Held)
at_place xs f i = option_and_then (f xs i) (slice_get xs i)

abbrev pub at_key : List Held → Key → (List Held → ℕ → Held → Option (List Held)) → Option (List Held)
at_key xs key f = option_and_then (at_place xs f) (position (is_of key) xs)

-- 6.2.4p2: a new instance, whose name is one
abbrev pub may_make : List Held → Bool → Key → (base size : ℕ) → Bool
may_make xs valid key base size =
    (valid && nat_le 1 key.k) && (list_all (exceeded_by key) xs && (nat_le 1 size && (nat_le 4096 base && (nat_le (base + size) (2 ^ 47)
    && (not (list_any (shares_bytes base size) xs) && nat_le (sum_by live_size xs + size) (2 ^ 24))))))

abbrev pub fresh : Key → (base size : ℕ) → Held
fresh key base size = record { key = key; base = base; size = size; live = true; exposed = false }

-- 6.2.4p2: the instances with a new one, if it may be made
abbrev pub with_made : List Held → Bool → Key → (base size : ℕ) → Option (List Held)
with_made xs valid key base size = if may_make xs valid key base size then Some (xs ++ fresh key base size ∷ []) else None

-- the memory model: the instance of a key, whether it lives, and whether it is exposed too
abbrev pub held_by : List Held → Key → Option Held
held_by xs key = option_and_then (λ i. slice_get xs i) (position (is_of key) xs)

abbrev pub lives : Option Held → Bool
lives None = false
lives (Some x) = x.live

abbrev pub opens : Option Held → Bool
opens None = false
opens (Some x) = x.live && x.exposed

-- the memory model: it ends at the address
abbrev pub ends_at : Option Held → ℕ → Bool
ends_at None a = false
ends_at (Some x) a = x.base + x.size == a

-- the memory model: it begins at the address
abbrev pub begins_at : Option Held → ℕ → Bool
begins_at None a = false
begins_at (Some x) a = x.base == a

-- ---- pairs

-- the memory model: which of the two a use leaves
abbrev pub left_by : Bond → Key → Option Key → Option (Bool × Bool)
left_by b first None = if same_key first b.low then Some (true, false) else if same_key first b.high then Some (false, true) else None
left_by b first (Some second) = if same_key first b.low && same_key second b.high then Some (true, true) else None

-- the memory model: a pair that was just made keeps both
abbrev pub new_bond : (address : ℕ) → (low high : Key) → Bond
new_bond address low high = record { address = address; low = low; high = high; keeps_low = true; keeps_high = true }

-- the memory model: two that live, are exposed and meet at the address may be a pair
abbrev pub may_pair : List Held → (low high : Key) → (address : ℕ) → Bool
may_pair xs low high address =
    opens (held_by xs low) && (opens (held_by xs high) && (ends_at (held_by xs low) address && begins_at (held_by xs high) address))

-- the memory model: the pairs with a new one, if it may be made
abbrev pub with_pair : List Held → List Bond → (pair address : ℕ) → (low high : Key) → Option (List Bond)
with_pair xs bs pair address low high = if pair == length bs + 1 && may_pair xs low high address then Some (bs ++ new_bond address low high ∷ []) else None

-- the memory model: what a test leaves, where it is known which of the two live, and whether the one that is left is an allocation
abbrev pub leaves : (a b : Bool) → (heap : Bool) → (test : ℕ) → (low high : Bool) → Bool
leaves a b heap test low high =
    (not low || a) && ((not high || b) && (
    if test == live_test then (low || not a) && (high || not b)
    else if test == block_test then not (low && high) && heap
    else if test == code_test then not (low && high)
    else test == range_test || test == same_test))

abbrev pub kept_by : Bond → Bool × Bool → Bond
kept_by b kept = record b { keeps_low = kept.0; keeps_high = kept.1 }

-- the memory model: the candidate whose name the test for an allocation (7.22.3) looks at
abbrev pub key_of_test : Bond → (low : Bool) → Key
key_of_test b low = if low then b.low else b.high

-- the memory model: a use of a pair that keeps these two, where the test may leave them
abbrev pub kept_in : List Held → (Key → Bool) → List Bond → ℕ → (test : ℕ) → Bond → Bool × Bool → Option (List Bond)
kept_in xs heap bs i test b kept =
    if leaves (lives (held_by xs b.low)) (lives (held_by xs b.high)) (heap (key_of_test b kept.0)) test kept.0 kept.1 then Some (slice_set bs i (kept_by b kept)) else None

abbrev pub use_by : List Held → (Key → Bool) → List Bond → ℕ → (test : ℕ) → Key → Option Key → Bond → Option (List Bond)
use_by xs heap bs i test first second b =
    if b.keeps_low && b.keeps_high then option_and_then (kept_in xs heap bs i test b) (left_by b first second) else None

-- the memory model: the use of the pair at a place
abbrev pub use_in : List Held → (Key → Bool) → List Bond → ℕ → (test : ℕ) → Key → Option Key → Option (List Bond)
use_in xs heap bs i test first second = option_and_then (use_by xs heap bs i test first second) (slice_get bs i)

-- the memory model: the same by the pair's number, from 1
abbrev pub after_pair_use : List Held → (Key → Bool) → List Bond → (pair test : ℕ) → Key → Option Key → Option (List Bond)
after_pair_use xs heap bs pair test first second = if nat_le 1 pair then use_in xs heap bs (pair - 1) test first second else None
