use Rattle.std.proofs.Common.{◌≡◌, ℕ, List, drop, map}
use Rattle.std.specs.List.{filter, fold}
use Rattle.pv_shown.specs.Shown.{put_by_address, by_base, reaches}
use Rattle.pv_shown.specs.Recorded.{AreEnds, held_then, helds_then}
use Rattle.pv_shown.proofs.showing.found_at.Given as goal

abbrev pub invariant-loop-end : goal.invariant-loop-end
invariant-loop-end l = record {
  ends : AreEnds l.rest (drop l.end-index l.ends);
  found : (names : List (List ℕ)) → fold (λ ys x. put_by_address x ys) (map (held_then names l.n) l.found.items) (filter (reaches l.a) (helds_then names l.n l.rest))
      ≡ by_base (filter (reaches l.a) (helds_then names l.n l.lives));
}
