use Rattle.std.proofs.Common.{take}
use Rattle.pv_watch.specs.Slots.{slots, watcher, SayAll}
use Rattle.pv_watch.proofs.seats.texts_of.Given as goal

abbrev pub invariant-loop-seat : goal.invariant-loop-seat
invariant-loop-seat g l = SayAll l.names (slots (watcher g.W.Watch.its_kind g.W.Watch.its_wants g.W.Watch.seen) (take l.seat-index l.seats)) l.all.items
