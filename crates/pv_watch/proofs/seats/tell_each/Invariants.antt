use Rattle.pv_watch.specs.Slots.{slots, watcher, After}
use Rattle.pv_watch.proofs.SlotLemmas.{ChangedSoFar}
use Rattle.pv_watch.proofs.seats.tell_each.Given as goal

abbrev pub invariant-loop-seat : goal.invariant-loop-seat
invariant-loop-seat g l =
    ChangedSoFar (After l.e l.names) (slots (watcher g.W.Watch.its_kind g.W.Watch.its_wants g.W.Watch.seen) l.initial.seats) (slots (watcher g.W.Watch.its_kind g.W.Watch.its_wants g.W.Watch.seen) l.seats) l.seat-index
