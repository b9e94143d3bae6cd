-- What those who watch are told in a call of the program, and what they say behind the first line of its report.
use Rattle.std.specs.Prelude.{◌≡◌, ◌<◌, ℕ, List, [], ◌∷◌, ◌++◌, take, Option, MatchOption}
use Rattle.std.specs.List.{filter, flat_map}
use Rattle.std.specs.Option.{option_map_or}
use Rattle.pv_watch.specs.Kinds.{kind_meant}
use Rattle.pv_watch.specs.Slots.{Slot, Present, Left, Told, SayAll, is_kept}
use Rattle.pv_serve.specs.Jobs.{Job, kinds_of, watched_of}
use Rattle.pv_serve.specs.Verdicts.{Course}

-- docs/FORMATS.md, What watchers say (the memory model): those whom a job keeps are of the kinds that its options name; words that are no job leave the hall as it is
abbrev pub kept_by : Option Job → List Slot → List Slot
kept_by asked slots = option_map_or (λ j. filter (is_kept (kinds_of (watched_of j))) slots) asked slots

-- the memory model: they were told all that happened in a run's memory, in order, and nothing where there is no run
abbrev pub AreTold : Option Course → (kept new : List Slot) → Type 0
AreTold course kept new = MatchOption course (new ≡ kept) (λ c. Told kept c.events c.names new)

-- docs/FORMATS.md, The report (5.1.1.3p1): a report: its line, and behind that of a run the texts of those who watched, in the order of the hall
abbrev pub IsReport : Option Course → (hall : List Slot) → (line text : List ℕ) → Type 0
IsReport course hall line text = MatchOption course (text ≡ line) (λ c. (story : List ℕ) × SayAll c.names hall story × (text ≡ line ++ story))

-- ---- a law: what watchers say who come to a run having seen nothing

-- docs/FORMATS.md, What watchers say (the memory model): such watchers, each of which wants an event at least
abbrev pub AreFresh : List Slot → Type 0
AreFresh [] = Unit {0}
AreFresh ((Left number text) ∷ slots) = ⊥
AreFresh ((Present kind wants seen) ∷ slots) = (seen ≡ []) × (0 < wants) × AreFresh slots

-- docs/FORMATS.md, What watchers say (the memory model): the text of a watcher's kind over the first events, as many as it wants, or all where there are fewer
abbrev pub story_of : Course → Slot → List ℕ
story_of c (Present kind wants seen) = (kind_meant kind).text wants (take wants c.events) c.names
story_of c (Left number text) = text

-- docs/FORMATS.md, What watchers say (the memory model): the texts of all in the order of the hall
abbrev pub stories : Course → List Slot → List ℕ
stories c slots = flat_map (story_of c) slots
