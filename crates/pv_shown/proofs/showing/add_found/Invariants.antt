use Rattle.std.proofs.Common.{◌≡◌, ◌++◌, ℕ, drop, map}
use Rattle.std.specs.List.{flat_map}
use Rattle.pv_shown.specs.Shown.{inside_line}
use Rattle.pv_shown.specs.Recorded.{held_then}
use Rattle.pv_shown.proofs.showing.add_found.Given as goal

abbrev pub invariant-loop-x : goal.invariant-loop-x
invariant-loop-x l =
    (n : ℕ) → l.text.items ++ flat_map (inside_line l.a) (map (held_then l.names n) (drop l.x-index l.found)) ≡ l.fn.text.items ++ flat_map (inside_line l.a) (map (held_then l.names n) l.found)
