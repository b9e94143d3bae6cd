-- The line of an event. What an instance and a pair are is told by the events seen.
use Rattle.std.specs.Prelude.{ℕ, Bool, true, false, List, [], ◌∷◌, ◌++◌, length, codes, if◌then◌else◌, ◌==◌, nat_lt, Option, Some, None}
use Rattle.std.specs.Option.{option_or}
use Rattle.std.specs.Fmt.{decimal}
use Rattle.pv_print.specs.Texts.{address_text}
use Rattle.pv_prov.specs.TestNumbers.{test_text}
use Rattle.pv_script.specs.Names.{name_at}
use Rattle.pv_watch.specs.declared.event.Event.{Event}
use Rattle.pv_watch.specs.declared.event.What.{What}
use Rattle.pv_watch.specs.declared.event.What.TheVariants.{Made, Ended, Exposed, Pair, Tried, Fault}
use Rattle.std.specs.List.{flat_map}

-- the first of the events of the memory model that tells such a thing
abbrev pub first_told : {A : Type 0} → (What → Option A) → List Event → Option A
first_told f [] = None
first_told f (e ∷ es) = option_or (f e.what) (first_told f es)

-- the memory model: the number of a storage instance's name, and which of this name it is
abbrev pub making_of : ℕ → What → Option (ℕ × ℕ)
making_of i (Made inst name k base size) = if inst == i then Some (name, k) else None
making_of i _ = None

-- the memory model: a pair's low and high candidate
abbrev pub making_of_pair : ℕ → What → Option (ℕ × ℕ)
making_of_pair p (Pair pair address low high) = if pair == p then Some (low, high) else None
making_of_pair p _ = None

-- `name#k`, which the memory model calls an instance by, or `?` where the instance's making isn't told or its name has no text
abbrev pub text_of_instance : List (List ℕ) → Option (ℕ × ℕ) → List ℕ
text_of_instance names None = codes "?"
text_of_instance names (Some p) = if nat_lt p.0 (length names) then name_at names p.0 ++ codes "#" ++ decimal p.1 else codes "?"

-- the memory model: the text of a storage instance
abbrev pub instance_text : List Event → List (List ℕ) → ℕ → List ℕ
instance_text seen names i = text_of_instance names (first_told (making_of i) seen)

-- the memory model: the candidates that passed, the low one first
abbrev pub survivors : List ℕ → List ℕ → (low high : Bool) → List ℕ
survivors l h true true = l ++ codes "," ++ h
survivors l h true false = l
survivors l h false true = h
survivors l h false false = []

-- the memory model: the candidates of a pair that passed; `?` for each where the pair's making isn't told
abbrev pub survivors_of : List Event → List (List ℕ) → Option (ℕ × ℕ) → (low high : Bool) → List ℕ
survivors_of seen names None low high = survivors (codes "?") (codes "?") low high
survivors_of seen names (Some p) low high = survivors (instance_text seen names p.0) (instance_text seen names p.1) low high

-- a word and its text (docs/FORMATS.md, What watchers say; memory model)
abbrev pub field : List ℕ → List ℕ → List ℕ
field word text = codes " " ++ word ++ codes "=" ++ text

-- the memory model: the text of an event, with the turns taken
abbrev pub what_text : List Event → List (List ℕ) → ℕ → What → List ℕ
what_text seen names turn (Made inst name k base size) =
    codes "create " ++ instance_text seen names inst ++ field (codes "turn") (decimal turn) ++ field (codes "base") (address_text base) ++ field (codes "size") (decimal size)
what_text seen names turn (Ended inst) = codes "end " ++ instance_text seen names inst ++ field (codes "turn") (decimal turn)
what_text seen names turn (Exposed inst) = codes "expose " ++ instance_text seen names inst ++ field (codes "turn") (decimal turn)
what_text seen names turn (Pair pair address low high) =
    codes "pair " ++ decimal pair ++ field (codes "turn") (decimal turn) ++ field (codes "address") (address_text address) ++ field (codes "low") (instance_text seen names low)
    ++ field (codes "high") (instance_text seen names high)
what_text seen names turn (Tried pair test low high) =
    codes "use " ++ decimal pair ++ field (codes "turn") (decimal turn) ++ field (codes "test") (test_text test)
    ++ field (codes "left") (survivors_of seen names (first_told (making_of_pair pair) seen) low high)
what_text seen names turn (Fault verdict low high pair) = codes "fault" ++ field (codes "turn") (decimal turn)

-- a line ends with a line feed (C17 7.21.2p2: a text stream's line)
abbrev pub line : List ℕ → List ℕ
line text = text ++ 10 ∷ []

-- the lines of some of the events of the memory model that were seen, in order
abbrev pub event_lines : List Event → List (List ℕ) → List Event → List ℕ
event_lines seen names es = flat_map (λ (e : Event). line (what_text seen names e.turn e.what)) es
