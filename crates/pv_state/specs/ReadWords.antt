-- A bridge: what the code reads of the words of the command line.
use Rattle.std.specs.Prelude.{◌≡◌, ◌≤◌, ◌<◌, ℕ, true, List, Option, None, Some, is_some, option_map, unwrap_or, MatchOption, []}
use Rattle.pv_serve.specs.Words.{texts, sides_in}
use Rattle.pv_serve.specs.ReadWords.{IsBound}
use Rattle.pv_state.specs.declared.words.Asked.{Asked}
use Rattle.pv_state.specs.declared.words.Place.{Place}
use Rattle.pv_state.specs.declared.words.Place.TheVariants as place
use Rattle.pv_state.specs.Words.{StateJob, places_in, or_end}

-- docs/FORMATS.md, Where a run stands: the places that words are, where each of them is one
abbrev pub places_read : (bound : ℕ) → List (List ℕ) → List Place
places_read bound ws = or_end (unwrap_or (places_in bound ws) [])

-- docs/FORMATS.md, Where a run stands: the job that was read of the words
abbrev pub asked_job : Asked → StateJob
asked_job a = record {
  file = a.file.now;
  script = option_map (λ s. s.now) a.script;
  look = record { bound = a.bound; zap = a.zap; sides = option_map (λ s. sides_in s.now) a.sides; all = a.all };
  places = places_read a.bound (texts a.places.now);
}

-- docs/FORMATS.md, Where a run stands: it is the job that the words ask for, or they ask for none
abbrev pub IsAsked : Option Asked → (wanted : Option StateJob) → Type 0
IsAsked read wanted = MatchOption read (wanted ≡ None) (λ a. wanted ≡ Some (asked_job a))

-- docs/FORMATS.md, Where a run stands (5.1.2.3p1): a turn that is asked for is within the bound
abbrev pub IsWithin : (bound : ℕ) → Place → Type 0
IsWithin bound place.End = Unit {0}
IsWithin bound (place.Turn n) = (0 < n) × (n ≤ bound)

-- docs/FORMATS.md, Where a run stands: each of the words is a place
abbrev pub ArePlaces : (bound : ℕ) → List (List ℕ) → Type 0
ArePlaces bound ws = is_some (places_in bound ws) ≡ true

-- docs/FORMATS.md, Where a run stands: what was asked for has a bound that is one (docs/FORMATS.md, Words), and places that are such
pub record IsFitting (a : Asked) : Type 0 where
  pub bound : IsBound a.bound
  pub places : ArePlaces a.bound (texts a.places.now)
