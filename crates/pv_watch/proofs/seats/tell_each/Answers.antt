use Rattle.std.proofs.Common.{◌∙◌, arith}
use Rattle.std.proofs.lemmas.List.{length-map}
use Rattle.pv_watch.specs.Slots.{slot, slots, watcher, After}
use Rattle.pv_watch.proofs.SlotLemmas.{changed_first, changed_more, changed_all}
use Rattle.pv_watch.proofs.seats.tell_each.Goals as goal

pub loop-seat-init : goal.loop-seat-init
loop-seat-init g c = changed_first (After c.args.e.now c.args.names.now) (slots (watcher g.W.Watch.its_kind g.W.Watch.its_wants g.W.Watch.seen) c.args.seats.now)

pub loop-seat-preserved : goal.loop-seat-preserved
loop-seat-preserved g c =
    changed_more (slot (watcher g.W.Watch.its_kind g.W.Watch.its_wants g.W.Watch.seen)) (After c.args.e.now c.args.names.now) c.args.seats.now c.loop-seat.seats c.loop-seat.seat-index c.seat-item.result c.tell_one.new.seat c.loop-seat-test.true c.loop-seat.invariant c.in_ok-tell_one.ensures

pub returns : goal.returns
returns g c = changed_all (After c.args.e.now c.args.names.now) (slots (watcher g.W.Watch.its_kind g.W.Watch.its_wants g.W.Watch.seen) c.args.seats.now) _ c.loop-seat.seat-index (length-map c.args.seats.now (slot (watcher g.W.Watch.its_kind g.W.Watch.its_wants g.W.Watch.seen)) ∙ omega (arith, c.loop-seat-test.false, c.loop-seat.auto.seat-index-end)) c.loop-seat.invariant
