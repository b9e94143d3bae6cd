use Rattle.std.proofs.Common.{rules, ◌∙◌, ap}
use Rattle.std.proofs.lemmas.Fn.{filter_same}
use Rattle.pv_watch.specs.Slots.{slot, slots, watcher, is_kept}
use Rattle.pv_watch.proofs.SlotLemmas.{filter_mapped}
use Rattle.pv_watch.proofs.seats.keep_kinds.Goals as goal

pub returns : goal.returns
returns g c =
    let view = (watcher g.W.Watch.its_kind g.W.Watch.its_wants g.W.Watch.seen) in
    let e = filter_same _ (λ seat. is_kept c.args.kinds.now (slot view seat)) _ (λ x b f k. search rules) _ _ c.retain.ensures.filtered in
    ap (slots view) e ∙ filter_mapped (slot view) (is_kept c.args.kinds.now) c.args.seats.now.items
