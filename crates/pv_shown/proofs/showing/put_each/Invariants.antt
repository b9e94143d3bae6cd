use Rattle.std.proofs.Common.{◌≡◌, ℕ, List, drop, map}
use Rattle.std.specs.List.{filter, fold}
use Rattle.pv_shown.specs.Shown.{put_by_address, reaches}
use Rattle.pv_shown.specs.Recorded.{held_then, helds_then}
use Rattle.pv_shown.proofs.showing.put_each.Given as goal

abbrev pub invariant-loop-x : goal.invariant-loop-x
invariant-loop-x l =
    (names : List (List ℕ)) → fold (λ ys x. put_by_address x ys) (map (held_then names l.n) l.found.items) (filter (reaches l.a) (helds_then names l.n (drop l.x-index l.lives)))
    ≡ fold (λ ys x. put_by_address x ys) (map (held_then names l.n) l.fn.found.items) (filter (reaches l.a) (helds_then names l.n l.lives))
