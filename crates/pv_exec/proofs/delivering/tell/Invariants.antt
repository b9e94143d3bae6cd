use Rattle.std.proofs.Common.{◌-◌, ◌≤◌}
use Rattle.std.specs.Prelude.{length, take, map}
use Rattle.pv_watch.specs.Slots.{Told}
use Rattle.pv_watch.specs.Halls.{hall_slots}
use Rattle.pv_exec.specs.Outlets.{event_of}
use Rattle.pv_typed.specs.Known.{Each}
use Rattle.pv_exec.specs.Words.{FitsWords}
use Rattle.pv_exec.proofs.delivering.tell.Given as goal

abbrev pub invariant-events : goal.invariant-events
invariant-events g l = record {
  told : Told (hall_slots l.fn.hall (λ z. (goal.Watch-dyn g z).its_kind z.1) (λ z. (goal.Watch-dyn g z).its_wants z.1) (λ z. (goal.Watch-dyn g z).seen z.1)) (map event_of (take l.i l.events)) l.unit.names (hall_slots l.hall (λ z. (goal.Watch-dyn g z).its_kind z.1) (λ z. (goal.Watch-dyn g z).its_wants z.1) (λ z. (goal.Watch-dyn g z).seen z.1));
  within : l.i ≤ length l.events;
  words : Each FitsWords (take l.i l.events);
}

abbrev pub decreases-events : goal.decreases-events
decreases-events g l = length l.events - l.i
