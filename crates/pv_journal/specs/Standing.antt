-- Bridges from the code's state to the state that lines leave, under texts of names.
use Rattle.std.specs.Prelude.{◌≡◌, ℕ, ◌<◌, ◌++◌, Bool, true, false, List, map, length, Option, Some, None, Result, Ok, Err, All, codes}
use Rattle.std.specs.Option.{option_map}
use Rattle.std.specs.Str.{bytes_eq}
use Rattle.pv_script.specs.Names.{name_at}
use Rattle.pv_journal.specs.Journals.{Id, Fact, Row}
use Rattle.pv_journal.specs.Obeying.{State, after}
use Rattle.pv_journal.specs.Obeying as state
use Rattle.pv_journal.specs.Reading.{row_and_state}
use Rattle.pv_journal.specs.Lines.{id_under, fact_under, row_under, rows_under}
use Rattle.pv_journal.specs.declared.error.JournalError.{JournalError}
use Rattle.pv_journal.specs.declared.error.JournalError.TheVariants as error
use Rattle.pv_journal.specs.declared.line.Key.{Key}
use Rattle.pv_journal.specs.declared.line.Line.{Line}
use Rattle.pv_journal.specs.declared.line.Said.{Said}
use Rattle.pv_journal.specs.declared.line.Said.TheVariants.{Made, Ended, Exposed, Pair, Used, Fault}
use Rattle.pv_journal.specs.declared.held.Held.{Held}
use Rattle.pv_journal.specs.declared.bonds.Bond.{Bond}
use Rattle.pv_journal.specs.declared.standing.Standing.{Standing}

-- ---- under texts of names

-- the memory model: an instance, by the texts of names
abbrev pub held_under : List (List ℕ) → Held → state.Held
held_under names h = record { id = id_under names h.key; base = h.base; size = h.size; live = h.live; exposed = h.exposed }

-- the memory model: a pair, by the texts of names
abbrev pub bond_under : List (List ℕ) → Bond → state.Bond
bond_under names b = record { address = b.address; low = id_under names b.low; high = id_under names b.high; keeps_low = b.keeps_low; keeps_high = b.keeps_high }

-- the memory model: what lines leave, by the texts of names
abbrev pub state_under : List (List ℕ) → Standing → State
state_under names s = record { held = map (held_under names) s.held; bonds = map (bond_under names) s.bonds; turn = s.turn; over = s.over }

-- ---- names that have texts

-- no other number has its text (6.4.2.1p6)
abbrev pub IsOnly : List (List ℕ) → ℕ → Type 0
IsOnly names n = (i : ℕ) → i < length names → name_at names i ≡ name_at names n → i ≡ n

pub record HasText (names : List (List ℕ)) (key : Key) : Type 0 where
  pub within : key.name < length names
  pub only : IsOnly names key.name

abbrev pub HaveTexts : List (List ℕ) → Option Key → Type 0
HaveTexts names None = Unit {0}
HaveTexts names (Some key) = HasText names key

abbrev pub IsHeldKnown : List (List ℕ) → Held → Type 0
IsHeldKnown names h = HasText names h.key

abbrev pub IsBondKnown : List (List ℕ) → Bond → Type 0
IsBondKnown names b = HasText names b.low × HasText names b.high

abbrev pub IsSaidKnown : List (List ℕ) → Said → Type 0
IsSaidKnown names (Made key base size) = HasText names key
IsSaidKnown names (Ended key) = HasText names key
IsSaidKnown names (Exposed key) = HasText names key
IsSaidKnown names (Pair pair address low high) = HasText names low × HasText names high
IsSaidKnown names (Used pair test first second) = HasText names first × HaveTexts names second
IsSaidKnown names Fault = Unit {0}

abbrev pub IsLineKnown : List (List ℕ) → Line → Type 0
IsLineKnown names line = IsSaidKnown names line.what

-- the memory model: the instance is called so
pub record IsCalled (names : List (List ℕ)) (id : Id) (key : Key) : Type 0 where
  pub same : id_under names key ≡ id
  pub known : HasText names key

-- the memory model: the same of a candidate that a use may leave or not
pub record IsCalledIf (names : List (List ℕ)) (id : Option Id) (key : Option Key) : Type 0 where
  pub same : option_map (id_under names) key ≡ id
  pub known : HaveTexts names key

-- the memory model: a line says so
pub record IsNumbered (names : List (List ℕ)) (told : Fact) (what : Said) : Type 0 where
  pub same : fact_under names what ≡ told
  pub known : IsSaidKnown names what

-- the memory model: each name in the state has a text
pub record IsKnown (names : List (List ℕ)) (s : Standing) : Type 0 where
  pub held : All (IsHeldKnown names) s.held
  pub bonds : All (IsBondKnown names) s.bonds

-- 6.4.2.1p6: names were added; all that were there have their numbers, and no text that had one number has two
pub record IsMore (old new : List (List ℕ)) : Type 0 where
  pub more : List (List ℕ)
  pub whole : new ≡ old ++ more
  pub only : (n : ℕ) → n < length old → IsOnly old n → IsOnly new n

-- the name is that of allocations (7.22.3)
abbrev pub is_heap : List (List ℕ) → Key → Bool
is_heap names key = bytes_eq (name_at names key.name) (codes "@heap")

-- ---- what a line does

-- the memory model: a line passed, and this is left; or it did not pass
abbrev pub Leaves : List (List ℕ) → Bool → Standing → Option State → Type 0
Leaves names true new wanted = (wanted ≡ Some (state_under names new)) × IsKnown names new
Leaves names false new wanted = wanted ≡ None

-- the memory model: a row passes from this state, and leaves that one, as the line with names by number; or it does not pass
abbrev pub Passes : State → Row → List (List ℕ) → Standing → Option Line → Type 0
Passes s row names new None = after s row ≡ None
Passes s row names new (Some line) = (after s row ≡ Some (state_under names new)) × (row_under names line ≡ row) × IsLineKnown names line × IsKnown names new

-- the memory model: the same of a text
abbrev pub Takes : State → List ℕ → List (List ℕ) → Standing → Option Line → Type 0
Takes s text names new None = row_and_state s text ≡ None
Takes s text names new (Some line) = (row_and_state s text ≡ Some (row_under names line, state_under names new)) × IsLineKnown names line × IsKnown names new

-- the memory model: these lines, or the first that is wrong; after want of memory nothing is said
abbrev pub Judges : {A : Type 0} → List (List ℕ) → (A → List Line) → Result (List Row) ℕ → Result A JournalError → Type 0
Judges names items wanted (Ok lines) = wanted ≡ Ok (rows_under names (items lines))
Judges names items wanted (Err (error.Bad line)) = wanted ≡ Err line
Judges names items wanted (Err error.NoMemory) = Unit {0}
