-- The texts of the kinds of watchers.
use Rattle.std.specs.Prelude.{◌≡◌, ℕ, Bool, true, false, List, [], ◌∷◌, ◌++◌, length, codes, if◌then◌else◌, ◌==◌, ◌||◌, Option, Some, None}
use Rattle.std.specs.List.{filter}
use Rattle.std.specs.Fmt.{decimal}
use Rattle.std.specs.Option.{option_map_or}
use Rattle.pv_watch.specs.declared.event.Event.{Event}
use Rattle.pv_watch.specs.declared.event.What.{What}
use Rattle.pv_watch.specs.declared.event.What.TheVariants.{Made, Ended, Exposed, Pair, Tried, Fault}
use Rattle.pv_watch.specs.Lines.{first_told, line, event_lines}
use Rattle.pv_watch.specs.Seen.{Kind}
use Rattle.pv_watch.specs.Texts.{journal_text}

-- ---- how many events of each kind were seen

-- which of the memory model's six kinds of events
abbrev pub place_of : What → ℕ
place_of (Made inst name k base size) = 0
place_of (Ended inst) = 1
place_of (Exposed inst) = 2
place_of (Pair pair address low high) = 3
place_of (Tried pair test low high) = 4
place_of (Fault verdict low high pair) = 5

-- how many events of the memory model of this kind were seen
abbrev pub events_of_kind : List Event → ℕ → ℕ
events_of_kind seen place = length (filter (λ (e : Event). place_of e.what == place) seen)

-- the line of a kind (docs/FORMATS.md, What watchers say; memory model)
abbrev pub count_line : List ℕ → ℕ → List ℕ
count_line word n = line (word ++ codes " " ++ decimal n)

-- a line for each kind (docs/FORMATS.md, What watchers say; memory model)
-- worked: all_counted, all_counted_cut, unknown_counted, unknown_counted_cut, faults_counted, faults_counted_cut, none_counted
abbrev pub census_text : List Event → List ℕ
census_text seen =
    count_line (codes "create") (events_of_kind seen 0) ++ count_line (codes "end") (events_of_kind seen 1) ++ count_line (codes "expose") (events_of_kind seen 2)
    ++ count_line (codes "pair") (events_of_kind seen 3) ++ count_line (codes "use") (events_of_kind seen 4) ++ count_line (codes "fault") (events_of_kind seen 5)

-- ---- the pairs, and their uses

-- the memory model: an event that tells of a pair of candidates
abbrev pub is_of_pair : What → Bool
is_of_pair (Pair pair address low high) = true
is_of_pair (Tried pair test low high) = true
is_of_pair _ = false

-- the lines of those events (docs/FORMATS.md, What watchers say; memory model)
-- worked: all_followed, all_followed_cut, unknown_followed, unknown_followed_cut, faults_followed, faults_followed_cut, none_followed
abbrev pub pointers_text : List Event → List (List ℕ) → List ℕ
pointers_text seen names = event_lines seen names (filter (λ (e : Event). is_of_pair e.what) seen)

-- ---- what led to the fault

-- the memory model: the candidates and the pair of the pointer that was tested
pub record Suspects : Type 0 where
  pub low : Option ℕ
  pub high : Option ℕ
  pub pair : Option ℕ

-- the memory model: the candidates and the pair that the event of a fault tells of
abbrev pub suspects_of : What → Option Suspects
suspects_of (Fault verdict low high pair) = Some (record { low = low; high = high; pair = pair })
suspects_of _ = None

-- whether the number of an instance or a pair (memory model) is this one
abbrev pub is_that : Option ℕ → ℕ → Bool
is_that o i = option_map_or (λ n. n == i) o false

-- the memory model: a candidate of that pointer
abbrev pub is_suspect : Suspects → ℕ → Bool
is_suspect s i = is_that s.low i || is_that s.high i

-- the memory model: it names a candidate or the pair; a pair's making names its two instances too, a use its pair alone
abbrev pub concerns : Suspects → What → Bool
concerns s (Made inst name k base size) = is_suspect s inst
concerns s (Ended inst) = is_suspect s inst
concerns s (Exposed inst) = is_suspect s inst
concerns s (Pair pair address low high) = is_suspect s low || is_suspect s high || is_that s.pair pair
concerns s (Tried pair test low high) = is_that s.pair pair
concerns s (Fault verdict low high pair) = false

-- the event of a fault (3.4.3)
abbrev pub is_fault : What → Bool
is_fault (Fault verdict low high pair) = true
is_fault _ = false

-- these and the first event of a fault (3.4.3), which isn't behind `passed`
abbrev pub concerning : Suspects → (passed : Bool) → List Event → List Event
concerning s passed [] = []
concerning s passed (e ∷ es) =
    if is_fault e.what then (if passed then concerning s true es else e ∷ concerning s true es)
    else if concerns s e.what then e ∷ concerning s passed es
    else concerning s passed es

-- the lines of what led to the fault (3.4.3), or that there is none
abbrev pub explanation : List Event → List (List ℕ) → Option Suspects → List ℕ
explanation seen names None = line (codes "no fault")
explanation seen names (Some s) = event_lines seen names (concerning s false seen)

-- what led to the first fault (3.4.3) that was seen
-- worked: all_explained, all_explained_cut, unknown_explained, unknown_explained_cut, faults_explained, faults_explained_cut, none_explained
abbrev pub explain_text : List Event → List (List ℕ) → List ℕ
explain_text seen names = explanation seen names (first_told suspects_of seen)

-- ---- the kinds of watchers

-- as many events as wanted were seen, so that later ones may be missing (docs/FORMATS.md, What watchers say; memory model)
abbrev pub cut_line : ℕ → List Event → List ℕ
cut_line wants seen = if length seen == wants then line (codes "cut") else []

-- the memory model: kind 1 (docs/FORMATS.md, What watchers say) tells the story of a fault (3.4.3)
abbrev pub story_kind : Kind
story_kind = record { number = 1; text = λ wants seen names. explain_text seen names ++ cut_line wants seen }

-- the memory model: kind 2 counts the events
abbrev pub census_kind : Kind
census_kind = record { number = 2; text = λ wants seen names. census_text seen ++ cut_line wants seen }

-- the memory model: kind 3 tells the life of each pair
abbrev pub pointers_kind : Kind
pointers_kind = record { number = 3; text = λ wants seen names. pointers_text seen names ++ cut_line wants seen }

-- the memory model: kind 4 keeps a journal (docs/FORMATS.md, Journals)
abbrev pub journal_kind : Kind
journal_kind = record { number = 4; text = λ wants seen names. journal_text seen names }

-- the kind that a watcher of a number is, whatever it brings itself: of the numbers 1 to 4 the one above (docs/FORMATS.md, What watchers say; memory model)
-- worked: strangers_with_a_given_number, strangers_with_another
abbrev pub kind_meant : Kind → Kind
kind_meant kind =
    if kind.number == 1 then story_kind else if kind.number == 2 then census_kind else if kind.number == 3 then pointers_kind else if kind.number == 4 then journal_kind else kind

-- a watcher's text: of the numbers 1 to 4 what is specified above, of any other what its kind says (docs/FORMATS.md, What watchers say; memory model)
abbrev pub IsText : Kind → (wants : ℕ) → List Event → List (List ℕ) → List ℕ → Type 0
IsText kind wants seen names text = text ≡ (kind_meant kind).text wants seen names
