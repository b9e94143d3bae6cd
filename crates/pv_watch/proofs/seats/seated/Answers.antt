use Rattle.pv_watch.specs.Slots.{watcher}
use Rattle.pv_watch.proofs.SlotLemmas.{slots_in}
use Rattle.pv_watch.proofs.seats.seated.Goals as goal

pub returns : goal.returns
returns g c = rw c.in_ok-seats.ensures (slots_in (watcher g.W.Watch.its_kind g.W.Watch.its_wants g.W.Watch.seen) c.args.watchers.items)
