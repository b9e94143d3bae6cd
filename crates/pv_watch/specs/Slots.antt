-- A hall as a list of slots.
use Rattle.std.specs.Prelude.{◌≡◌, ℕ, List, [], ◌∷◌, ◌++◌, length, map, Bool, true, false, ◌==◌}
use Rattle.std.specs.List.{list_any, AllZip}
use Rattle.pv_watch.specs.declared.event.Event.{Event}
use Rattle.pv_watch.specs.declared.seats.Seat.{Seat}
use Rattle.pv_watch.specs.declared.seats.Seat.TheVariants.{In, Out}
use Rattle.pv_watch.specs.Seen.{Kind}
use Rattle.pv_watch.specs.Kinds.{IsText}

-- a watcher of a run's events (the memory model) that is present, or the text of one that has left
pub data Slot : Type 0 where
  Present : (kind : Kind) (wants : ℕ) (seen : List Event) → Slot
  Left : (number : ℕ) (text : List ℕ) → Slot

-- the number of the kind of a slot's watcher (docs/FORMATS.md, What watchers say; memory model)
abbrev pub kind_number : Slot → ℕ
kind_number (Present kind wants seen) = kind.number
kind_number (Left number text) = number

-- the number of the slot's kind is one of these (docs/FORMATS.md, What watchers say; memory model)
abbrev pub is_kept : List ℕ → Slot → Bool
is_kept kinds s = list_any (λ k. k == kind_number s) kinds

-- a watcher that has seen as many events as it wants has left its text (docs/FORMATS.md, What watchers say; memory model)
abbrev pub Stays : Bool → Kind → (wants : ℕ) → List Event → List (List ℕ) → Slot → Type 0
Stays true kind wants seen names (Present k w s) = ⊥
Stays true kind wants seen names (Left number text) = (number ≡ kind.number) × IsText kind wants seen names text
Stays false kind wants seen names s = s ≡ Present kind wants seen

-- one event of the memory model more
abbrev pub After : Event → List (List ℕ) → Slot → Slot → Type 0
After event names (Present kind wants seen) new = Stays (length (seen ++ event ∷ []) == wants) kind wants (seen ++ event ∷ []) names new
After event names (Left number text) new = new ≡ Left number text

-- these events of the memory model in order
abbrev pub Told : List Slot → List Event → List (List ℕ) → List Slot → Type 0
Told old [] names new = new ≡ old
Told old (event ∷ events) names new = (next : List Slot) × AllZip (After event names) old next × Told next events names new

-- the text of a slot (docs/FORMATS.md, What watchers say; memory model)
abbrev pub Says : List (List ℕ) → Slot → List ℕ → Type 0
Says names (Present kind wants seen) text = IsText kind wants seen names text
Says names (Left number text) said = said ≡ text

-- the texts of all slots in order (docs/FORMATS.md, What watchers say; memory model)
abbrev pub SayAll : List (List ℕ) → List Slot → List ℕ → Type 0
SayAll names [] text = text ≡ []
SayAll names (s ∷ others) text = (first : List ℕ) × (rest : List ℕ) × (text ≡ first ++ rest) × Says names s first × SayAll names others rest

-- a watcher of a run's events (memory model), by what the trait says of it
abbrev pub watcher : {W : Type 0} → (W → Kind) → (W → ℕ) → (W → List Event) → W → Slot
watcher kind wants seen w = Present (kind w) (wants w) (seen w)

-- the slot of a seat, which has a watcher or the text of one that has left (docs/FORMATS.md, What watchers say; memory model)
abbrev pub slot : {W : Type 0} → (W → Slot) → Seat W → Slot
slot view (In w) = view w
slot view (Out number text) = Left number text.items

-- the slots of all seats, in order (docs/FORMATS.md, What watchers say; memory model)
abbrev pub slots : {W : Type 0} → (W → Slot) → List (Seat W) → List Slot
slots view seats = map (slot view) seats
