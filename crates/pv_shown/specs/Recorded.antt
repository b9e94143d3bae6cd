-- What the code keeps of a run's memory, by turns: bridges to the state at each of them (docs/FORMATS.md, Commands).
use Rattle.std.specs.Prelude.{◌≡◌, ℕ, ◌+◌, ◌-◌, ◌≤◌, Bool, true, false, ◌&&◌, ◌||◌, not, nat_le, List, [], ◌∷◌, ◌++◌, map, Option, Some, None, IfSome, take, drop, position, slice_get, slice_set, option_map, if◌then◌else◌}
use Rattle.std.specs.List.{filter, list_all}
use Rattle.pv_journal.specs.declared.line.Key.{Key}
use Rattle.pv_journal.specs.declared.line.Said.{Said}
use Rattle.pv_journal.specs.declared.line.Said.TheVariants.{Made, Ended, Exposed, Pair, Used, Fault}
use Rattle.pv_journal.specs.Journals.{Row}
use Rattle.pv_journal.specs.Lines.{id_under}
use Rattle.pv_journal.specs.Obeying.{Held, Bond, same_id}
use Rattle.pv_shown.specs.declared.past.Life.{Life}
use Rattle.pv_shown.specs.declared.past.Tie.{Tie}
use Rattle.pv_shown.specs.Shown.{state_at}

-- what came at a turn, if it did, came by this one
abbrev pub came : Option ℕ → (n : ℕ) → Bool
came None n = false
came (Some t) n = nat_le t n

-- 6.2.4p2: the instance was made by this turn
abbrev pub is_made : (n : ℕ) → Life → Bool
is_made n x = nat_le x.made n

-- the memory model: the pair of candidates was made by this turn
abbrev pub is_tied : (n : ℕ) → Tie → Bool
is_tied n b = nat_le b.made n

-- 6.2.4p2: an instance as it was at this turn: whether it lived, and whether it was exposed (the memory model)
abbrev pub held_then : List (List ℕ) → (n : ℕ) → Life → Held
held_then names n x = record { id = id_under names x.key; base = x.base; size = x.size; live = not (came x.ended n); exposed = came x.exposed n }

-- the memory model: a pair of candidates as it was at this turn: the candidates that it kept
abbrev pub bond_then : List (List ℕ) → (n : ℕ) → Tie → Bond
bond_then names n b = record {
  address = b.address;
  low = id_under names b.low;
  high = id_under names b.high;
  keeps_low = not (came b.used n) || b.leaves_low;
  keeps_high = not (came b.used n) || b.leaves_high;
}

-- docs/FORMATS.md, Commands (6.2.4p2): the instances that were made by this turn, for `list` and `at`
abbrev pub helds_then : List (List ℕ) → (n : ℕ) → List Life → List Held
helds_then names n xs = map (held_then names n) (filter (is_made n) xs)

-- docs/FORMATS.md, Commands (the memory model): the pairs that were made by this turn, for `pairs`
abbrev pub bonds_then : List (List ℕ) → (n : ℕ) → List Tie → List Bond
bonds_then names n bs = map (bond_then names n) (filter (is_tied n) bs)

-- docs/FORMATS.md, Commands (6.2.4p2): `list` shows an instance that lived at this turn
abbrev pub lives_then : (n : ℕ) → Life → Bool
lives_then n x = nat_le x.made n && not (came x.ended n)

-- docs/FORMATS.md, Commands (6.5.6p8): `at` shows one that lived at this turn, where the address was within it or one past its end
abbrev pub reaches_then : (n address : ℕ) → Life → Bool
reaches_then n a x = nat_le x.made n && (not (came x.ended n) && (nat_le x.base a && nat_le a (x.base + x.size)))

-- docs/FORMATS.md, Commands: what the code keeps tells at each turn what the lines of the journal up to that turn leave (the memory model)
pub record Tells (names : List (List ℕ)) (rows : List Row) (xs : List Life) (bs : List Tie) : Type 0 where
  pub held : (n : ℕ) → (state_at rows n).held ≡ helds_then names n xs
  pub bonds : (n : ℕ) → (state_at rows n).bonds ≡ bonds_then names n bs

-- ---- blocks

-- 6.2.4p2: all instances of a block have ended by this turn, where one is said, so that `list` and `at` pass over the block
abbrev pub EndsBy : Option ℕ → List Life → Type 0
EndsBy end xs = IfSome end (λ t. (n : ℕ) → t ≤ n → list_all (λ (x : Life). came x.ended n) xs ≡ true)

-- 6.2.4p2: so it is with one block of 256 instances behind the other; nothing is said of what is left
abbrev pub AreEnds : List Life → List (Option ℕ) → Type 0
AreEnds xs [] = Unit {0}
AreEnds xs (end ∷ ends) = EndsBy end (take 256 xs) × AreEnds (drop 256 xs) ends

-- ---- what a line adds

-- docs/FORMATS.md, Journals: the instance is the one that this key of a line names (the memory model)
abbrev pub is_of : List (List ℕ) → Key → Life → Bool
is_of names key x = same_id (id_under names x.key) (id_under names key)

-- docs/FORMATS.md, Journals: it stands at this place among the instances that are kept (6.2.4p2)
abbrev pub IsAt : List (List ℕ) → Key → List Life → (i : ℕ) → Type 0
IsAt names key xs i = option_map (is_of names key) (slice_get xs i) ≡ Some true

-- 6.2.4p2: an instance that a line `create` makes
abbrev pub made_at : (turn : ℕ) → Key → (base size : ℕ) → Life
made_at turn key base size = record { key = key; base = base; size = size; made = turn; ended = None; exposed = None }

-- 6.2.4p2: an instance that a line `end` ends
abbrev pub ended_at : (turn : ℕ) → Life → Life
ended_at turn x = record x { ended = Some turn }

-- the memory model: an instance that a line `expose` exposes
abbrev pub exposed_at : (turn : ℕ) → Life → Life
exposed_at turn x = record x { exposed = Some turn }

-- the memory model: a pair of candidates that a line `pair` makes; it keeps both
abbrev pub tied_at : (turn address : ℕ) → (low high : Key) → Tie
tied_at turn address low high = record { address = address; low = low; high = high; made = turn; used = None; leaves_low = true; leaves_high = true }

-- the memory model: whether a use that leaves these candidates leaves the low one, and whether the high one
abbrev pub left_by : List (List ℕ) → Tie → Key → Option Key → Bool × Bool
left_by names b first None = if same_id (id_under names first) (id_under names b.low) then (true, false) else (false, true)
left_by names b first (Some second) = (true, true)

-- the memory model: a pair of candidates behind a line `use`
abbrev pub used_at : List (List ℕ) → (turn : ℕ) → Key → Option Key → Tie → Tie
used_at names turn first second b = record b {
  used = Some turn;
  leaves_low = (left_by names b first second).0;
  leaves_high = (left_by names b first second).1;
}

-- docs/FORMATS.md, Journals: the instance that this key names was changed so, if there is one (the memory model)
pub data Changes (names : List (List ℕ)) (key : Key) (f : Life → Life) (old new : List Life) : Type 0 where
  Nobody : position (is_of names key) old ≡ None → Changes names key f old new
  Somebody : (i : ℕ) (x : Life) → slice_get old i ≡ Some x → is_of names key x ≡ true → new ≡ slice_set old i (f x) → Changes names key f old new

-- docs/FORMATS.md, Journals: the pair of this number was used, if there is one (the memory model)
abbrev pub Uses : List (List ℕ) → (turn : ℕ) → (pair : ℕ) → Key → Option Key → (old new : List Tie) → Type 0
Uses names turn pair first second old new = (b : Tie) → 1 ≤ pair → slice_get old (pair - 1) ≡ Some b → new ≡ slice_set old (pair - 1) (used_at names turn first second b)

-- docs/FORMATS.md, Journals: what a line of a journal adds to what is kept (the memory model)
abbrev pub Notes : List (List ℕ) → (turn : ℕ) → Said → (old new : List Life) → (before after : List Tie) → Type 0
Notes names turn (Made key base size) old new before after = (new ≡ old ++ made_at turn key base size ∷ []) × (after ≡ before)
Notes names turn (Ended key) old new before after = Changes names key (ended_at turn) old new × (after ≡ before)
Notes names turn (Exposed key) old new before after = Changes names key (exposed_at turn) old new × (after ≡ before)
Notes names turn (Pair pair address low high) old new before after = (new ≡ old) × (after ≡ before ++ tied_at turn address low high ∷ [])
Notes names turn (Used pair test first second) old new before after = (new ≡ old) × Uses names turn pair first second before after
Notes names turn Fault old new before after = (new ≡ old) × (after ≡ before)
