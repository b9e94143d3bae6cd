-- What one call of a program does to its outside: the files, the sinks before it and after it, and those who watch. C17 leaves the outside of a
-- program to its implementation (5.1.2.3p7); what a sink and a watcher tell is this program's own (docs/FORMATS.md).
use Rattle.std.specs.Prelude.{ℕ, List, Option, Any}
use Rattle.pv_script.specs.Outside.{Rose, Gains, GainsPrefix}
use Rattle.pv_watch.specs.declared.event.Event.{Event}
use Rattle.pv_watch.specs.declared.hall.Hall.{Hall}
use Rattle.pv_watch.specs.Seen.{Kind}
use Rattle.pv_watch.specs.Slots.{Slot}
use Rattle.pv_watch.specs.Halls.{hall_slots}

-- 7.21.8.1p3: a read of one of these files failed
abbrev pub AnyRose : (names : List (List ℕ)) → (old new : List ℕ → ℕ) → Type 0
AnyRose names old new = Any (λ name. Rose (old name) (new name)) names

-- 7.21.2p2: a sink before a call and after it: its bytes in their order, where it tells them, and how many of its writes failed (7.21.8.2p3)
pub record Sunk : Type 0 where
  pub old : Option (List ℕ)
  pub new : Option (List ℕ)
  pub faults_old : ℕ
  pub faults_new : ℕ

-- 7.21.2p2: a sink before a call and after it, by what it tells
abbrev pub sink_change : {S : Type 0} → (written : S → Option (List ℕ)) → (faults : S → ℕ) → (old new : S) → Sunk
sink_change written faults old new = record { old = written old; new = written new; faults_old = faults old; faults_new = faults new }

-- 7.21.8.2p3: a write to the sink failed
abbrev pub SinkRose : Sunk → Type 0
SinkRose sink = Rose sink.faults_old sink.faults_new

-- 7.21.2p2: the sink gained these bytes, and no others
abbrev pub Wrote : Sunk → List ℕ → Type 0
Wrote sink bytes = Gains sink.old sink.new bytes

-- 7.21.2p2: the sink gained a first part of these bytes, and no others
abbrev pub WrotePrefix : Sunk → List ℕ → Type 0
WrotePrefix sink bytes = GainsPrefix sink.old sink.new bytes

-- docs/FORMATS.md, What watchers say (the memory model): the hall before a call and after it, as lists of watchers that are present or have left their text
pub record Halls : Type 0 where
  pub old : List Slot
  pub new : List Slot

-- docs/FORMATS.md, What watchers say (the memory model): the same, by what a hall's watchers say of their kind, of how many events they want, and of those that they have seen
abbrev pub halls : {X : Type 0} {P : X → Type 0} → (old new : Hall X P) → ((x : X) × P x → Kind) → ((x : X) × P x → ℕ) → ((x : X) × P x → List Event) → Halls
halls old new kind wants seen = record { old = hall_slots old kind wants seen; new = hall_slots new kind wants seen }
