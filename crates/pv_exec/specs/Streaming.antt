-- A bridge: how output and events leave a run while it goes on (C17 5.1.2.3p6, 7.21.3): bytes go to the sink, events to the hall.
use Rattle.std.specs.Prelude.{◌≡◌, ℕ, ◌+◌, ◌*◌, ◌^◌, ◌<◌, ◌≤◌, List, [], ◌∷◌, ◌++◌, length, take, drop, map, None, Some, Result, Ok, Err}
use Rattle.std.specs.declared.option.Option.{Option}
use Rattle.pv_script.specs.Outside.{Rose, Gains, GainsPrefix}
use Rattle.pv_typed.specs.Known.{Each}
use Rattle.pv_watch.specs.Slots.{Slot, Told}
use Rattle.pv_watch.specs.declared.event.Event.{Event}
use Rattle.pv_eval.specs.declared.marked.Marked.{Marked}
use Rattle.pv_eval.specs.Machines.{Machine}
use Rattle.pv_eval.specs.States.{State}
use Rattle.pv_exec.specs.Words.{FitsWords}
use Rattle.pv_exec.specs.declared.delivering.Undelivered.{Undelivered}
use Rattle.pv_exec.specs.declared.delivering.Undelivered.TheVariants as undelivered
use Rattle.pv_exec.specs.Outlets.{event_of, IsNear, Outlet}

-- 7.21.3p3: the first of these events, if there is one, came when at least 4096 bytes more were printed than these
abbrev pub IsFar : (written : ℕ) → List Marked → Type 0
IsFar n [] = Unit {0}
IsFar n (m ∷ ms) = (n + 4095 < m.mark) × (m.mark < 2 ^ 64)

-- why a part could not be delivered (docs/FORMATS.md, status 12 and 13)
abbrev pub failing : {A : Type 0} → Result A Undelivered → Option Undelivered
failing (Ok a) = None
failing (Err e) = Some e

-- 7.21.3p3: the first n of the bytes that are buffered were written, by blocks of 4096
pub record FirstWritten (n : ℕ) (bytes : List ℕ) (before now : Option (List ℕ)) : Type 0 where
  pub most : n ≤ length bytes
  pub gains : Gains before now (take n bytes)
  pub blocks : ℕ
  pub whole : n ≡ 4096 * blocks

-- 7.21.3p3: where a write failed a first part was written: so many blocks, and at most the next one, which is full
pub record BlockPart (before now : Option (List ℕ)) (bytes : List ℕ) : Type 0 where
  pub part : GainsPrefix before now bytes
  pub blocks : ℕ
  pub begun : 4096 * blocks ≤ length part.part
  pub block : length part.part ≤ 4096 * blocks + 4096
  pub full : 4096 * blocks + 4096 ≤ length bytes

-- 7.21.3p3: they are not kept any more, and fewer than 4096 are
pub record HasWritten (n : ℕ) (before now : Option (List ℕ)) (old new : Machine) : Type 0 where
  pub first : FirstWritten n old.moment.printed before now
  pub few : length old.moment.printed < n + 4096
  pub left : new ≡ record old { moment = record old.moment { printed = drop n old.moment.printed } }

-- the first n events were told, each near to what is written (7.21.3p3)
pub record FirstTold (n : ℕ) (events : List Marked) (written : ℕ) (old new : List Slot) (names : List (List ℕ)) : Type 0 where
  pub most : n ≤ length events
  pub told : Told old (map event_of (take n events)) names new
  pub near : Each (IsNear written) (take n events)
  pub words : Each FitsWords (take n events)

-- they do not wait any more: told as near as output is buffered (7.21.3p3)
pub record HasTold (written : ℕ) (before now : List Slot) (names : List (List ℕ)) (old new : Machine) : Type 0 where
  pub count : ℕ
  pub first : FirstTold count old.moment.waiting written before now names
  pub far : IsFar written (drop count old.moment.waiting)
  pub left : new ≡ record old { moment = record old.moment { waiting = drop count old.moment.waiting } }

-- 5.1.2.3p6, 7.21.3p3: of what is kept a first part has left, bytes and events. Fewer than 4096 bytes are kept, and no event that came
-- within the next 4095 bytes behind those that were written; a count that is as great as a number can be says nothing of them.
pub record Delivered (before now : Outlet) (names : List (List ℕ)) (count counted : ℕ) (old new : Machine) : Type 0 where
  pub bytes : List ℕ
  pub printed : old.moment.printed ≡ bytes ++ new.moment.printed
  pub gains : Gains before.sink now.sink bytes
  pub counts : counted ≤ count + length bytes
  pub exact : counted + 1 < 2 ^ 64 → counted ≡ count + length bytes
  pub blocks : ℕ
  pub whole : length bytes ≡ 4096 * blocks
  pub few : length new.moment.printed < 4096
  pub events : List Marked
  pub waiting : old.moment.waiting ≡ events ++ new.moment.waiting
  pub told : Told before.hall (map event_of events) names now.hall
  pub near : Each (IsNear counted) events
  pub words : Each FitsWords events
  pub far : IsFar counted new.moment.waiting
  pub same : new ≡ record old { moment = record old.moment { printed = new.moment.printed; waiting = new.moment.waiting } }

-- or it has not: of the bytes a first part was written (5.1.2.3p6), and where a write failed nothing was told
abbrev pub DeliveredOr : Option Undelivered → Outlet → Outlet → List (List ℕ) → (count counted : ℕ) → Machine → Machine → Type 0
DeliveredOr None before now names count counted old new = Delivered before now names count counted old new
DeliveredOr (Some undelivered.WriteFault) before now names count counted old new = BlockPart before.sink now.sink old.moment.printed × (now.hall ≡ before.hall)
DeliveredOr (Some undelivered.NoMemory) before now names count counted old new = GainsPrefix before.sink now.sink old.moment.printed

-- the sink's count of faults never falls, and a write failed only where it rose (docs/FORMATS.md, status 12)
abbrev pub RoseAt : Option Undelivered → (before now : ℕ) → Type 0
RoseAt None before now = Unit {0}
RoseAt (Some undelivered.WriteFault) before now = Rose before now
RoseAt (Some undelivered.NoMemory) before now = Unit {0}

-- and it is the cause of a fault alone
pub record DeliveryCause (x : Option Undelivered) (before now : ℕ) : Type 0 where
  pub later : before ≤ now
  pub rose : RoseAt x before now

-- 5.1.2.3p6: all that was kept was written, or a first part of it
abbrev pub Finished : Option Undelivered → Option (List ℕ) → Option (List ℕ) → List ℕ → Type 0
Finished None before now bytes = Gains before now bytes
Finished (Some e) before now bytes = GainsPrefix before now bytes

-- 5.1.2.3p6: all that waited was told; where a write failed nothing
abbrev pub FinishedTold : Option Undelivered → List Slot → List Slot → List Event → List (List ℕ) → Type 0
FinishedTold None old new events names = Told old events names new
FinishedTold (Some undelivered.WriteFault) old new events names = new ≡ old
FinishedTold (Some undelivered.NoMemory) old new events names = Unit {0}

-- 5.1.2.3p6: the hall was told these events, unless memory ran out on the way
abbrev pub ToldUnless : Option Undelivered → List Slot → List Event → List (List ℕ) → List Slot → Type 0
ToldUnless None old events names new = Told old events names new
ToldUnless (Some undelivered.WriteFault) old events names new = Told old events names new
ToldUnless (Some undelivered.NoMemory) old events names new = Unit {0}

-- 5.1.2.3p6: what the outside has of a run at a moment: these bytes and these events
pub record Streams (x : Option Undelivered) (before now : Outlet) (names : List (List ℕ)) (bytes : List ℕ) (events : List Marked) : Type 0 where
  pub gains : Gains before.sink now.sink bytes
  pub told : ToldUnless x before.hall (map event_of events) names now.hall
  pub near : Each (IsNear (length bytes)) events
  pub words : Each FitsWords events

-- 5.1.2.3p6: a state's output and events begin with these
pub record Begins (written : List ℕ) (told : List Marked) (s : State) : Type 0 where
  pub unwritten : List ℕ
  pub output : written ++ unwritten ≡ s.output
  pub untold : List Marked
  pub events : told ++ untold ≡ s.events
