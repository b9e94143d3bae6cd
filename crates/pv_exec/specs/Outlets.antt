-- What the outside has of a run while it goes on: the bytes that went to the sink, and the events that went to the hall.
use Rattle.std.specs.Prelude.{ℕ, List, ◌≡◌, ◌++◌, length, map, ◌+◌, ◌≤◌}
use Rattle.std.specs.declared.option.Option.{Option}
use Rattle.pv_script.specs.Outside.{Gains}
use Rattle.pv_typed.specs.Known.{Each}
use Rattle.pv_watch.specs.declared.event.Event.{Event}
use Rattle.pv_watch.specs.Slots.{Slot, Told}
use Rattle.pv_eval.specs.declared.marked.Marked.{Marked}
use Rattle.pv_eval.specs.States.{State}
use Rattle.pv_exec.specs.Words.{FitsWords}

-- an event without its mark, which says how much was printed (7.21.6.3) when it came
abbrev pub event_of : Marked → Event
event_of m = m.event

-- 7.21.3p3: output is buffered: the event came when at most 4095 bytes more were printed than these
abbrev pub IsNear : (written : ℕ) → Marked → Type 0
IsNear n m = m.mark ≤ n + 4095

-- what the outside has (5.1.2.3p6): the bytes that the sink tells, and the hall
pub record Outlet : Type 0 where
  pub sink : Option (List ℕ)
  pub hall : List Slot

-- where a write failed: what was written of the output, as many bytes as the sink gained, and what was told of the events; each of
-- those came when at most 4095 bytes more were printed than were written (7.21.3p3)
pub record ToldPart (before now : Outlet) (end : State) (names : List (List ℕ)) : Type 0 where
  pub written : List ℕ
  pub unwritten : List ℕ
  pub output : written ++ unwritten ≡ end.output
  pub gains : Gains before.sink now.sink written
  pub events : List Marked
  pub untold : List Marked
  pub all : events ++ untold ≡ end.events
  pub told : Told before.hall (map event_of events) names now.hall
  pub near : Each (IsNear (length written)) events
  pub words : Each FitsWords events
