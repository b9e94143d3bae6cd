-- When a list of lines obeys the memory model, as far as events show it: each passes from the state that those before it leave.
use Rattle.std.specs.Prelude.{◌≡◌, ℕ, ◌+◌, ◌-◌, ◌^◌, Bool, true, false, ◌&&◌, ◌||◌, not, ◌==◌, nat_lt, nat_le, List, [], ◌∷◌, ◌++◌, length, codes, Option, Some, None, if◌then◌else◌, option_and_then, position, slice_get, slice_set, sum_by, IsSome}
use Rattle.std.specs.List.{list_any, list_all}
use Rattle.std.specs.Str.{bytes_eq}
use Rattle.pv_script.specs.Words.{is_name}
use Rattle.pv_prov.specs.TestNumbers.{live_test, range_test, block_test, same_test, code_test}
use Rattle.pv_journal.specs.Journals.{Id, Fact, Made, Ended, Exposed, Paired, Used, Fault, Row, rows_text, journal_text, last_text, row_text}

-- the memory model: a storage instance that was made (6.2.4p2): its address, its size, whether it lives and whether it is exposed
pub record Held : Type 0 where
  pub id : Id
  pub base : ℕ
  pub size : ℕ
  pub live : Bool
  pub exposed : Bool

-- the memory model: a pair of candidates that was made, and which of them it keeps
pub record Bond : Type 0 where
  pub address : ℕ
  pub low : Id
  pub high : Id
  pub keeps_low : Bool
  pub keeps_high : Bool

-- the memory model: what lines leave: the instances and the pairs in the order of their making, the turn of the last line, and whether it was a
-- fault (3.4.3)
pub record State : Type 0 where
  pub held : List Held
  pub bonds : List Bond
  pub turn : ℕ
  pub over : Bool

-- the memory model: before the first line nothing was made, and no turn taken (5.1.2.3)
abbrev pub at_first : State
at_first = record { held = []; bonds = []; turn = 0; over = false }

-- the memory model: one instance
abbrev pub same_id : Id → Id → Bool
same_id a b = a.k == b.k && bytes_eq a.name b.name

-- the memory model: where the instance stands
abbrev pub place_of : List Held → Id → Option ℕ
place_of xs id = position (λ (x : Held). same_id x.id id) xs

-- the memory model: the instance of this name and number
abbrev pub held_at : List Held → Id → Option Held
held_at xs id = option_and_then (λ i. slice_get xs i) (place_of xs id)

-- 6.2.4p2: it lives
abbrev pub is_live : Option Held → Bool
is_live None = false
is_live (Some x) = x.live

-- the memory model: it lives, and is exposed
abbrev pub is_open : Option Held → Bool
is_open None = false
is_open (Some x) = x.live && x.exposed

-- the memory model: it ends at the address
abbrev pub ends_at : Option Held → ℕ → Bool
ends_at None a = false
ends_at (Some x) a = x.base + x.size == a

-- the memory model: it begins at the address
abbrev pub begins_at : Option Held → ℕ → Bool
begins_at None a = false
begins_at (Some x) a = x.base == a

-- a name that an instance may have (6.2.1, 6.4.5p6, 7.22.3), and a number from 1 of 64 bits
abbrev pub is_id : Id → Bool
is_id id = is_name id.name && (nat_le 1 id.k && nat_lt id.k (2 ^ 64))

-- the memory model: the number exceeds every earlier one of the name
abbrev pub exceeds : Id → Held → Bool
exceeds id x = not (bytes_eq x.id.name id.name) || nat_lt x.id.k id.k

-- 6.2.4p2: a live instance that shares a byte with [base, base + size)
abbrev pub overlaps : (base size : ℕ) → Held → Bool
overlaps base size x = x.live && (nat_lt x.base (base + size) && nat_lt base (x.base + x.size))

-- 6.2.4p2: what an instance adds to the bytes that are reserved
abbrev pub live_size : Held → ℕ
live_size x = if x.live then x.size else 0

-- 6.2.4p2: a new instance has a number of its own, a byte at least, lies within the addresses, shares no byte with a live one, and with it at
-- most 2^24 bytes are live
abbrev pub may_make : List Held → Id → (base size : ℕ) → Bool
may_make xs id base size =
    is_id id && (list_all (exceeds id) xs && (nat_le 1 size && (nat_le 4096 base && (nat_le (base + size) (2 ^ 47)
    && (not (list_any (overlaps base size) xs) && nat_le (sum_by live_size xs + size) (2 ^ 24))))))

-- the memory model: the candidates that a use leaves, as whether the low and the high one are among them; in order, and at least one
abbrev pub left_of : Bond → Id → Option Id → Option (Bool × Bool)
left_of b first None = if same_id first b.low then Some (true, false) else if same_id first b.high then Some (false, true) else None
left_of b first (Some second) = if same_id first b.low && same_id second b.high then Some (true, true) else None

-- the memory model: a test leaves those that live (6.2.4p2): all of them where it is that alone; one function (6.5.2.2p1), or one allocation (7.22.3)
abbrev pub may_leave : List Held → Bond → (test : ℕ) → (low high : Bool) → Bool
may_leave xs b test low high =
    let low_lives = is_live (held_at xs b.low) in
    let high_lives = is_live (held_at xs b.high) in
    (not low || low_lives) && ((not high || high_lives) && (
    if test == live_test then (low || not low_lives) && (high || not high_lives)
    else if test == block_test then not (low && high) && bytes_eq (if low then b.low.name else b.high.name) (codes "@heap")
    else if test == code_test then not (low && high)
    else test == range_test || test == same_test))

-- the memory model: the state where the instance at a place became x
abbrev pub with_held : State → ℕ → Held → State
with_held s i x = record s { held = slice_set s.held i x }

-- the memory model: a pair that keeps these of its two candidates
abbrev pub keeping : Bond → Bool × Bool → Bond
keeping b kept = record b { keeps_low = kept.0; keeps_high = kept.1 }

-- 6.2.4p2: the instance at a place ends
abbrev pub end_at : State → ℕ → Held → Option State
end_at s i x = if x.live then Some (with_held s i (record x { live = false })) else None

-- the memory model: it is exposed, for the first time
abbrev pub expose_at : State → ℕ → Held → Option State
expose_at s i x = if x.live && not x.exposed then Some (with_held s i (record x { exposed = true })) else None

-- the memory model: what is done to the instance of this name and number
abbrev pub at_held : State → Id → (ℕ → Held → Option State) → Option State
at_held s id f = option_and_then (λ i. option_and_then (f i) (slice_get s.held i)) (place_of s.held id)

-- the memory model: the pair's number is the next, its two are exposed and live, and meet at the address
abbrev pub may_pair : State → (pair address : ℕ) (low high : Id) → Bool
may_pair s pair address low high =
    let l = held_at s.held low in
    let h = held_at s.held high in
    pair == length s.bonds + 1 && (is_open l && (is_open h && (ends_at l address && begins_at h address)))

-- the memory model: a use of a pair that keeps both
abbrev pub use_at : State → ℕ → (test : ℕ) → Id → Option Id → Bond → Option State
use_at s i test first second b =
    if b.keeps_low && b.keeps_high
    then option_and_then (λ kept. if may_leave s.held b test kept.0 kept.1 then Some (record s { bonds = slice_set s.bonds i (keeping b kept) }) else None) (left_of b first second)
    else None

-- the memory model: what a line leaves, where it passes
abbrev pub after_fact : State → Fact → Option State
after_fact s (Made id base size) =
    if may_make s.held id base size then Some (record s { held = s.held ++ record { id = id; base = base; size = size; live = true; exposed = false } ∷ [] }) else None
after_fact s (Ended id) = at_held s id (λ i x. end_at s i x)
after_fact s (Exposed id) = at_held s id (λ i x. expose_at s i x)
after_fact s (Paired pair address low high) =
    if may_pair s pair address low high
    then Some (record s { bonds = s.bonds ++ record { address = address; low = low; high = high; keeps_low = true; keeps_high = true } ∷ [] })
    else None
after_fact s (Used pair test first second) =
    if nat_le 1 pair then option_and_then (λ b. use_at s (pair - 1) test first second b) (slice_get s.bonds (pair - 1)) else None
after_fact s Fault = Some (record s { over = true })

-- turns never fall, are of 64 bits, and nothing follows a fault (3.4.3)
abbrev pub after : State → Row → Option State
after s row = if not s.over && (nat_le s.turn row.turn && nat_lt row.turn (2 ^ 64)) then after_fact (record s { turn = row.turn }) row.says else None

-- the memory model: what the lines leave, where each passes
abbrev pub after_all : State → List Row → Option State
after_all s [] = Some s
after_all s (row ∷ rows) = option_and_then (λ t. after_all t rows) (after s row)

-- the memory model: each passes
abbrev pub Obeys : List Row → Type 0
Obeys rows = IsSome (after_all at_first rows)

-- the bytes are the journal of lines that obey (docs/FORMATS.md, Journals; memory model)
pub record IsJournal (rows : List Row) (bytes : List ℕ) : Type 0 where
  pub obeys : Obeys rows
  pub text : bytes ≡ journal_text rows

-- The lines `rows` come first and obey, and what follows is neither a line that passes after them nor the right last line, or there are bytes behind
-- that one (docs/FORMATS.md, Journals; memory model).
pub data IsStuck (rows : List Row) (rest : List ℕ) : (line : ℕ) → Type 0 where
  Here : ((row : Row) (s : State) (tail : List ℕ) → after_all at_first (rows ++ row ∷ []) ≡ Some s → rest ≡ row_text row ++ (10 ∷ tail) → ⊥)
      → ((tail : List ℕ) → rest ≡ last_text (length rows) ++ (10 ∷ tail) → ⊥) → IsStuck rows rest (length rows + 1)
  Behind : (c : ℕ) (tail : List ℕ) → rest ≡ last_text (length rows) ++ (10 ∷ c ∷ tail) → IsStuck rows rest (length rows + 2)

-- line number `line` is the least that is wrong (docs/FORMATS.md, Journals; memory model)
pub record IsBad (bytes : List ℕ) (line : ℕ) : Type 0 where
  pub rows : List Row
  pub rest : List ℕ
  pub obey : Obeys rows
  pub whole : bytes ≡ rows_text rows ++ rest
  pub stuck : IsStuck rows rest line
