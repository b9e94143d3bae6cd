use Rattle.std.proofs.Common.{◌≡◌, List, map, ap, ltb, ◌∙◌}
use Rattle.std.specs.List.{insert, position_or_len}
use Rattle.pv_shown.specs.declared.past.Life.{Life}
use Rattle.pv_shown.specs.Recorded.{held_then}
use Rattle.pv_shown.proofs.Walks.{put_placed}
use Rattle.pv_shown.proofs.showing.put.Goals as goal

pub returns : goal.returns
returns c = λ names n.
    let place : c.place_below-place.result ≡ position_or_len (λ (y : Life). ltb c.args.x.base y.base) c.args.found.now.items =
    c.place_below-place.ensures.place ∙ ap (λ (ys : List Life). position_or_len (λ (y : Life). ltb c.args.x.base y.base) ys) c.as_slice.ensures.value in
    ap (λ (ys : List Life). map (held_then names n) ys) c.in_ok-insert.ensures.items
    ∙ ap (λ k. map (held_then names n) (insert c.args.found.now.items k c.args.x)) place
    ∙ put_placed names n c.args.x c.args.found.now.items
