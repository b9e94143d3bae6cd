use Rattle.std.proofs.Common.{arith}
use Rattle.pv_watch.specs.Slots.{slot, watcher}
use Rattle.pv_watch.proofs.SlotLemmas.{texts_more}
use Rattle.pv_watch.proofs.seats.texts_of.Goals as goal

pub loop-seat-preserved : goal.loop-seat-preserved
loop-seat-preserved g c =
    texts_more c.args.names.now (slot (watcher g.W.Watch.its_kind g.W.Watch.its_wants g.W.Watch.seen)) c.args.seats.now c.loop-seat.seat-index c.seat-item.result c.loop-seat.all.items c.add_text.new.all.items
    (omega arith) c.seat-item.is c.loop-seat.invariant c.in_ok-add_text.ensures
