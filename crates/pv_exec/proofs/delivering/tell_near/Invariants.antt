use Rattle.std.proofs.Common.{◌-◌}
use Rattle.std.specs.Prelude.{length}
use Rattle.pv_watch.specs.Halls.{hall_slots}
use Rattle.pv_exec.specs.Streaming.{FirstTold}
use Rattle.pv_exec.proofs.delivering.tell_near.Given as goal

abbrev pub invariant-events : goal.invariant-events
invariant-events g l = record {
  told : FirstTold l.i l.events l.written (hall_slots l.fn.hall (λ z. (goal.Watch-dyn g z).its_kind z.1) (λ z. (goal.Watch-dyn g z).its_wants z.1) (λ z. (goal.Watch-dyn g z).seen z.1)) (hall_slots l.hall (λ z. (goal.Watch-dyn g z).its_kind z.1) (λ z. (goal.Watch-dyn g z).its_wants z.1) (λ z. (goal.Watch-dyn g z).seen z.1)) l.unit.names;
}

abbrev pub decreases-events : goal.decreases-events
decreases-events g l = length l.events - l.i
