-- Which line an event is, where instances and pairs go by number: an instance's number is its place among those made before, a pair's its
-- place among the pairs. So what an event says is read off the state that the events before it leave.
use Rattle.std.specs.Prelude.{◌≡◌, ℕ, ◌+◌, ◌-◌, ◌≤◌, ◌<◌, Bool, true, false, List, [], ◌∷◌, length, map, codes, Option, Some, None, All, option_and_then, option_map, slice_get, if◌then◌else◌, ◌==◌, unwrap_or}
use Rattle.std.specs.Ordering.{nat_cmp}
use Rattle.std.specs.FinMap.{FinMap, get}
use Rattle.pv_script.specs.Words.{is_name}
use Rattle.pv_script.specs.Names.{name_at}
use Rattle.pv_prov.specs.declared.pairs.Twin.{Twin}
use Rattle.pv_prov.specs.declared.names.Prov.{Prov}
use Rattle.pv_prov.specs.declared.names.Prov.TheVariants as prov
use Rattle.pv_inst.specs.declared.values.Instance.{Instance}
use Rattle.pv_inst.specs.Table.{Table, instance_at}
use Rattle.pv_inst.specs.Infos.{base_of}
use Rattle.pv_inst.specs.Use.{is_heap}
use Rattle.pv_watch.specs.declared.event.Event.{Event}
use Rattle.pv_watch.specs.declared.event.What.{What}
use Rattle.pv_watch.specs.declared.event.What.TheVariants as what
use Rattle.pv_journal.specs.Journals.{Id, Fact, Made, Ended, Exposed, Paired, Used, Fault, Row}
use Rattle.pv_journal.specs.Obeying.{Held, Bond, State, after_fact, after}

-- ---- what a run's events say

-- the memory model: who the instance with this number is, the first one being number 1
abbrev pub known : List Held → ℕ → Option Id
known xs i = if i == 0 then None else option_map (λ (x : Held). x.id) (slice_get xs (i - 1))

-- the memory model: which survivors a use tells, low ones first; a use without a survivor isn't told
abbrev pub used_by : (pair test : ℕ) → Bond → (low high : Bool) → Option Fact
used_by pair test b true true = Some (Used pair test b.low (Some b.high))
used_by pair test b true false = Some (Used pair test b.low None)
used_by pair test b false true = Some (Used pair test b.high None)
used_by pair test b false false = None

-- the memory model: what an event says in this state, if its numbers are of what was made; a new instance has the next number
abbrev pub fact_in : List (List ℕ) → State → What → Option Fact
fact_in names s (what.Made inst name k base size) = if inst == length s.held + 1 then Some (Made (record { name = name_at names name; k = k }) base size) else None
fact_in names s (what.Ended i) = option_map Ended (known s.held i)
fact_in names s (what.Exposed i) = option_map Exposed (known s.held i)
fact_in names s (what.Pair pair address low high) =
    option_and_then (λ l. option_map (λ h. Paired pair address l h) (known s.held high)) (known s.held low)
fact_in names s (what.Tried pair test low high) = option_and_then (λ b. used_by pair test b low high) (slice_get s.bonds (pair - 1))
fact_in names s (what.Fault verdict low high pair) = Some Fault

-- the memory model: what an event leaves, where it is a fact that passes
abbrev pub after_what : List (List ℕ) → State → What → Option State
after_what names s e = option_and_then (after_fact s) (fact_in names s e)

-- the memory model: what events of one turn leave, where each passes
abbrev pub told_from : List (List ℕ) → State → List What → Option State
told_from names s [] = Some s
told_from names s (e ∷ es) = option_and_then (λ t. told_from names t es) (after_what names s e)

-- the memory model: the line of an event, with its turn
abbrev pub row_in : List (List ℕ) → State → Event → Option Row
row_in names s e = option_map (λ f. record { turn = e.turn; says = f }) (fact_in names s e.what)

-- the memory model: what an event with its turn leaves
abbrev pub after_event : List (List ℕ) → State → Event → Option State
after_event names s e = option_and_then (after s) (row_in names s e)

-- the memory model: what events leave, where each is a line that passes
abbrev pub after_events : List (List ℕ) → State → List Event → Option State
after_events names s [] = Some s
after_events names s (e ∷ es) = option_and_then (λ t. after_events names t es) (after_event names s e)

-- ---- what a table of instances and pairs is as such a state

-- the memory model: what an instance is called by, where names have these texts
abbrev pub id_of : List (List ℕ) → Instance → Id
id_of names x = record { name = name_at names x.name; k = x.k }

abbrev pub no_id : Id
no_id = record { name = []; k = 0 }

abbrev pub id_by : List (List ℕ) → Option Instance → Id
id_by names None = no_id
id_by names (Some x) = id_of names x

-- the memory model: the same of an instance's number
abbrev pub id_at : List (List ℕ) → List Instance → ℕ → Id
id_at names xs i = id_by names (instance_at xs i)

-- 6.2.4p2: what is known of an instance
abbrev pub held_of : List (List ℕ) → Instance → Held
held_of names x = record { id = id_of names x; base = x.base; size = x.size; live = x.live; exposed = x.exposed }

-- the memory model: what is known of a pair; its address is where its high one begins
abbrev pub bond_of : List (List ℕ) → List Instance → Twin → Bond
bond_of names xs t = record { address = base_of (instance_at xs t.high); low = id_at names xs t.low; high = id_at names xs t.high; keeps_low = t.keeps_low; keeps_high = t.keeps_high }

-- the memory model: the state that the lines of a table's making leave
abbrev pub state_of : List (List ℕ) → (turn : ℕ) → (over : Bool) → List Instance → List Twin → State
state_of names turn over xs ts = record { held = map (held_of names) xs; bonds = map (bond_of names xs) ts; turn = turn; over = over }

-- the memory model: what names say, of the instances made and of how often each name was asked for: each instance has a name that has a
-- text, of its name a number of its own, and none beyond what was asked for; an allocation (7.22.3) has the name `@heap`
pub record AreCalledBy (names : List (List ℕ)) (xs : List Instance) (counts : FinMap nat_cmp ℕ) : Type 0 where
  pub within : All (λ (x : Instance). x.name < length names) xs
  pub valid : All (λ (x : Instance). is_name (name_at names x.name) ≡ true) xs
  pub counted : All (λ (x : Instance). (1 ≤ x.k) × (x.k ≤ unwrap_or (get counts x.name) 0)) xs
  pub once : (i j : ℕ) (x y : Instance) → instance_at xs i ≡ Some x → instance_at xs j ≡ Some y → x.name ≡ y.name → x.k ≡ y.k → i ≡ j
  pub heap : All (λ (x : Instance). is_heap x.kind ≡ true → name_at names x.name ≡ codes "@heap") xs

-- the same of a table (the memory model)
abbrev pub AreCalled : List (List ℕ) → Table → Type 0
AreCalled names T = AreCalledBy names T.instances T.counts

-- the memory model: the name of a pair has the pair's number, and pairs are counted from 1
abbrev pub IsNumbered : Prov → Type 0
IsNumbered (prov.Pair k) = 1 ≤ k
IsNumbered (prov.Inst i) = Unit {0}
IsNumbered prov.Empty = Unit {0}
