-- What the words of the command line ask for (5.1.2.2.1p2: a program's parameters). Which words there are is this program's own: docs/FORMATS.md
-- has the rules.
use Rattle.std.specs.Prelude.{ℕ, Bool, true, false, ◌==◌, nat_lt, nat_le, List, [], ◌∷◌, length, codes, Option, Some, None, if◌then◌else◌, option_map, option_and_then, unwrap_or}
use Rattle.std.specs.Str.{bytes_eq}
use Rattle.pv_script.specs.Words.{number_to}
use Rattle.pv_serve.specs.declared.words.Mode.TheVariants as whose
use Rattle.pv_serve.specs.Jobs.{default_turns}
use Rattle.pv_serve.specs.Words.{Options, no_options, with_option}
use Rattle.pv_state.specs.declared.words.Place.{Place}
use Rattle.pv_state.specs.declared.words.Place.TheVariants as place

-- docs/FORMATS.md, Where a run stands (5.1.2.3): how a source is run and looked at: with at most so many turns (5.1.2.3p1); whether a pointer to what has ended is
-- indeterminate (6.2.4p2), and the sides of pairs, if they are given (the memory model); and whether all objects are wanted
pub record Look : Type 0 where
  pub bound : ℕ
  pub zap : Bool
  pub sides : Option (List Bool)
  pub all : Bool

-- docs/FORMATS.md, Where a run stands (5.1.2.3): the source in this file is run so, with the script of addresses in that file, if one is named, and looked at there
pub record StateJob : Type 0 where
  pub file : List ℕ
  pub script : Option (List ℕ)
  pub look : Look
  pub places : List Place

-- ---- places

-- docs/FORMATS.md, Where a run stands (5.1.2.3p1): a place: the end, or a turn within the bound
abbrev pub place_in : (bound : ℕ) → List ℕ → Option Place
place_in bound word = if bytes_eq word (codes "end") then Some place.End else option_map place.Turn (number_to bound word)

-- docs/FORMATS.md, Where a run stands (5.1.2.3p1): places, each of them one
abbrev pub places_in : (bound : ℕ) → List (List ℕ) → Option (List Place)
places_in bound [] = Some []
places_in bound (w ∷ ws) = option_and_then (λ p. option_map (λ (ps : List Place). p ∷ ps) (places_in bound ws)) (place_in bound w)

-- docs/FORMATS.md, Where a run stands: where none is named it is the end (5.1.2.3p1)
abbrev pub or_end : List Place → List Place
or_end [] = place.End ∷ []
or_end (p ∷ ps) = p ∷ ps

-- docs/FORMATS.md, Where a run stands: the most places
abbrev pub most_places : ℕ
most_places = 16

-- ---- options

-- docs/FORMATS.md, Where a run stands (5.1.2.2.1p2): the job that options and places ask for; turns, and pointers to what has ended, as in a run
abbrev pub job_by : (file : List ℕ) → Options → (all : Bool) → List Place → StateJob
job_by file o all ps = record {
  file = file;
  script = o.script;
  look = record { bound = unwrap_or o.turns default_turns; zap = unwrap_or o.zap true; sides = o.sides; all = all };
  places = or_end ps;
}

-- docs/FORMATS.md, Where a run stands (5.1.2.2.1p2): the same, where these words are all places
abbrev pub job_of : (file : List ℕ) → Options → (all : Bool) → List (List ℕ) → Option StateJob
job_of file o all ws = if nat_le (length ws) most_places then option_map (job_by file o all) (places_in (unwrap_or o.turns default_turns) ws) else None

-- docs/FORMATS.md, Where a run stands (5.1.2.2.1p2): the word of an option begins with `-`
abbrev pub is_option : List ℕ → Bool
is_option [] = false
is_option (b ∷ bs) = b == 45

abbrev mutual
  -- docs/FORMATS.md, Where a run stands (5.1.2.2.1p2): what a file and the words behind it ask for, where these options were read: options, `--all` among them, each
  -- once at most, in any order, and behind them places
  pub asked : (file : List ℕ) → Options → (all : Bool) → List (List ℕ) → Option StateJob
  asked file o all [] = job_of file o all []
  asked file o all (w ∷ ws) =
      if is_option w then (if bytes_eq w (codes "--all") then (if all then None else asked file o true ws) else valued file o all ws w) else job_of file o all (w ∷ ws)

  -- docs/FORMATS.md, Where a run stands (5.1.2.2.1p2): the same behind the word of an option, whose value stands first: those of a settled run (the memory model)
  pub valued : (file : List ℕ) → Options → (all : Bool) → List (List ℕ) → (name : List ℕ) → Option StateJob
  valued file o all [] name = None
  valued file o all (value ∷ ws) name = option_and_then (λ p. asked file p all ws) (with_option whose.Settle o name value)

-- docs/FORMATS.md, Where a run stands (5.1.2.2.1p2): what the words ask for, if they do: `FILE [--script F] [--turns N] [--zap V] [--sides S] [--all] [WHERE]..`, where
-- FILE and F have a byte
-- worked: words_asked
abbrev pub job : List (List ℕ) → Option StateJob
job (file ∷ rest) = if nat_lt 0 (length file) then asked file no_options false rest else None
job [] = None
