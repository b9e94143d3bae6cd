-- What an operation tells of: its events, without turn and mark, in the order of what it did, and the bytes that it prints.
-- In the memory model PNVI-ae-udi a use of a pointer settles its name, an integer exposes instances, and a number at which
-- two instances meet makes a pair; each of these is told, also where a later check of the same operation ends the run.
use Rattle.std.specs.Prelude.{ℕ, ◌+◌, List, [], ◌∷◌, ◌++◌, length, Some, None, Result, Ok, Err, drop}
use Rattle.std.specs.declared.option.Option.{Option}
use Rattle.std.specs.Option.{option_map, option_map_or}
use Rattle.pv_prov.specs.declared.pairs.Twin.{Twin}
use Rattle.pv_prov.specs.declared.names.Prov.{Prov}
use Rattle.pv_prov.specs.Names.{stands, pair_of}
use Rattle.pv_inst.specs.declared.values.Instance.{Instance}
use Rattle.pv_inst.specs.declared.values.Tried.{Tried}
use Rattle.pv_inst.specs.declared.values.Miss.{Miss}
use Rattle.pv_inst.specs.declared.values.Test.TheVariants.{Live}
use Rattle.pv_inst.specs.Table.{Table, instance_at}
use Rattle.pv_inst.specs.Infos.{base_of}
use Rattle.pv_inst.specs.Use.{use_answer}
use Rattle.pv_object.specs.declared.values.Pointer.{Pointer}
use Rattle.pv_object.specs.Memory.{Mem}
use Rattle.pv_world.specs.declared.failing.Blame.{Blame}
use Rattle.pv_watch.specs.declared.event.What.{What}
use Rattle.pv_watch.specs.declared.event.What.TheVariants as what
use Rattle.pv_fault.specs.declared.verdict.Verdict.{Verdict}
pub use Rattle.pv_prov.specs.TestNumbers.{live_test, range_test, same_test, code_test}
use Rattle.pv_world.specs.Worlds.{Wrong, ByVerdict, Halts}

-- what an operation tells: its events (the memory model), and the bytes that it prints (7.21.6.3)
pub record Told : Type 0 where
  pub events : List What
  pub bytes : List ℕ

-- nothing is told
abbrev pub no_telling : Told
no_telling = record { events = []; bytes = [] }

-- these events are told, and nothing is printed
abbrev pub telling : List What → Told
telling es = record { events = es; bytes = [] }

-- the memory model: a use that found survivors is told of where its name stood for two before it, a pair of candidates
abbrev pub event_of_use : (test : ℕ) → Tried → List What
event_of_use test tried = option_map_or (λ k. what.Tried k test tried.low tried.high ∷ []) tried.pair []

-- the memory model: a use that found none is not told
abbrev pub uses : (test : ℕ) → Result Tried Miss → List What
uses test (Ok tried) = event_of_use test tried
uses test (Err miss) = []

-- 6.2.4p2: the live test of a pointer, as it is made on this table
abbrev pub live_use : Table → Pointer → List What
live_use T p = uses live_test (use_answer T p.prov Live)

-- 6.5.8p5, 6.5.6p9: of two operands the left one's use comes first
abbrev pub both_used : Tried → Tried → List What
both_used left right = event_of_use same_test left ++ event_of_use same_test right

-- an instance that was made (6.2.4p2)
abbrev pub event_of_making : Table → ℕ → List What
event_of_making T i = option_map_or (λ (x : Instance). what.Made i x.name x.k x.base x.size ∷ []) (instance_at T.instances i) []

-- the memory model: an event for each instance that became exposed
abbrev pub each_exposed : List ℕ → List What
each_exposed [] = []
each_exposed (i ∷ is) = what.Exposed i ∷ each_exposed is

-- the memory model: the instances that became exposed and were not told of
abbrev pub exposures : Table → List What
exposures T = each_exposed T.pending

-- the memory model: afterwards they were told
abbrev pub all_told : Table → Table
all_told T = record T { pending = [] }

-- the memory model: the pairs of candidates from number k on. A pair's address is where its high one begins
abbrev pub each_paired : Table → ℕ → List Twin → List What
each_paired T k [] = []
each_paired T k (t ∷ ts) = what.Pair k (base_of (instance_at T.instances t.high)) t.low t.high ∷ each_paired T (k + 1) ts

-- the memory model: the pairs of candidates that were made from one table to a later one
abbrev pub pairings : Table → Table → List What
pairings T U = each_paired U (length T.pairs + 1) (drop (length T.pairs) U.pairs)

-- 3.4.3, 3.19.2: the verdict of a stop, if it has one: undefined, undecided (the memory model) or indeterminate
abbrev pub verdict_of : Wrong → Option Verdict
verdict_of (ByVerdict v) = Some v
verdict_of (Halts h) = None

-- the memory model: what a fault carries: the candidates of the pointer whose check stopped, as they stood before the
-- operation, and the number of its pair, settled or not
abbrev pub blame_of : Mem → Prov → Blame
blame_of M p = let s = stands M.table.pairs p in record { low = s.low; high = s.high; pair = pair_of p }

-- the event of a fault
abbrev pub fault_event : Option Blame → Verdict → What
fault_event None v = what.Fault v None None None
fault_event (Some b) v = what.Fault v b.low b.high b.pair

-- the event of a fault, where there is a verdict
abbrev pub fault_of : Option Blame → Option Verdict → List What
fault_of b v = option_map_or (λ v. fault_event b v ∷ []) v []

-- the event of a fault, by the name of the pointer whose check stopped (the memory model: provenance)
abbrev pub fault_told : Mem → Wrong → Option Prov → List What
fault_told M y p = fault_of (option_map (blame_of M) p) (verdict_of y)
