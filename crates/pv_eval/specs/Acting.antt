-- An operation on the state: the one place where the world changes, events are told and bytes are printed.
use Rattle.std.specs.Prelude.{ℕ, Bool, not, List, [], ◌∷◌, ◌++◌, ◌==◌, ◌&&◌, length, nat_lt, Option, Some, None, false, if◌then◌else◌, slice_get}
use Rattle.pv_prov.specs.declared.pairs.Twin.{Twin}
use Rattle.pv_prov.specs.Names.{twin_at, after_narrowing}
use Rattle.pv_watch.specs.declared.event.What.{What}
use Rattle.pv_watch.specs.declared.event.What.TheVariants as what
use Rattle.pv_world.specs.Worlds.{Worth, World, Halts, SidesEnded}
use Rattle.pv_world.specs.Doing.{Done, Answers, Fails, Breaks}
use Rattle.pv_world.specs.Telling.{Told, verdict_of, fault_of, fault_told}
use Rattle.pv_eval.specs.declared.marked.Marked.{Marked}
use Rattle.pv_eval.specs.States.{Setting, State, Stopped, Res, Gives, Stops}
use Rattle.std.specs.Option.{option_map_or}

-- events, each with its turn (5.1.2.3p1: a step of the abstract machine) and its mark, how much was printed (7.21.6.3)
abbrev pub marked_events : (turn mark : ℕ) → List What → List Marked
marked_events n m [] = []
marked_events n m (x ∷ xs) = record { event = record { turn = n; what = x }; mark = m } ∷ marked_events n m xs

-- the state after an operation (5.1.2.3p2): the bytes that it prints (7.21.6.3) come after its events
abbrev pub after_telling : World → Told → State → State
after_telling w t s = record { world = w; output = s.output ++ t.bytes; events = s.events ++ marked_events s.taken (length s.output) t.events; taken = s.taken }

-- the state after an operation, with more events behind those that it told, as that of undefined behaviour (3.4.3)
abbrev pub noted_with : World → Told → List What → State → State
noted_with w t more s = after_telling w (record t { events = t.events ++ more }) s

-- the memory model: how many pairs of candidates were made
abbrev pub pair_count : World → ℕ
pair_count w = length w.memory.table.pairs

-- a pair that stands for both is settled to this side, and keeps its high candidate alone or its low one (the memory model: the user disambiguates)
abbrev pub with_side : World → (pair : ℕ) → (high : Bool) → World
with_side w k high =
    if option_map_or (λ (t : Twin). t.keeps_low && t.keeps_high) (twin_at w.memory.table.pairs k) false
    then record w { memory = record w.memory { table = record w.memory.table { pairs = after_narrowing w.memory.table.pairs k (not high) high } } } else w

-- the memory model: an event that tells of a use of pair k
abbrev pub is_use_of : ℕ → What → Bool
is_use_of k (what.Tried m test low high) = m == k
is_use_of k _ = false

-- the memory model: the events that tell of no use of pair k
abbrev pub without_use : ℕ → List What → List What
without_use k [] = []
without_use k (e ∷ es) = if is_use_of k e then without_use k es else e ∷ without_use k es

-- in a settled run the test on a pair that was just made finds one candidate (the memory model), and nothing is told of it
abbrev pub settling : ℕ → Told → Told
settling k t = record t { events = without_use k t.events }

-- the memory model: in a settled run a new pair keeps its side from its making on; where the list has none for it the run ends
abbrev pub by_side : Option Bool → Worth → (line : ℕ) → World → Told → State → Res Worth
by_side None v line w t s = Stops (Stopped (Halts (SidesEnded (pair_count w))) line) (after_telling w (settling (pair_count w) t) s)
by_side (Some high) v line w t s = Gives v (after_telling (with_side w (pair_count w) high) (settling (pair_count w) t) s)

-- the value of an operation; in a settled run a pair of candidates (the memory model) that it made has its side from then on
abbrev pub answer_with_sides : Option (List Bool) → Worth → (line : ℕ) → World → Told → State → Res Worth
answer_with_sides None v line w t s = Gives v (after_telling w t s)
answer_with_sides (Some sides) v line w t s =
    if nat_lt (pair_count s.world) (pair_count w)
    then by_side (slice_get sides (pair_count s.world)) v line w t s
    else Gives v (after_telling w t s)

-- an operation of the node in this line gives its value, or ends the run (3.4.3); then the fault comes last
abbrev pub after_doing : Setting → (line : ℕ) → Done → State → Res Worth
after_doing b line (Answers v w t) s = answer_with_sides b.sides v line w t s
after_doing b line (Fails y p w t) s = Stops (Stopped y line) (noted_with w t (fault_told s.world.memory y p) s)
after_doing b line (Breaks y p w t) s = Stops (Stopped y line) (noted_with w t (fault_of p (verdict_of y)) s)
