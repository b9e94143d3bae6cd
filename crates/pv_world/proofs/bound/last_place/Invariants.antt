use Rattle.std.proofs.Common.{◌≡◌, ◌≤◌, None, length, drop}
use Rattle.pv_world.specs.BoundParts.{last_at}
use Rattle.pv_world.proofs.bound.last_place.Given as goal

-- behind place k the number has no binding
abbrev pub invariant-loop-k : goal.invariant-loop-k
invariant-loop-k l = record {
  within : l.k ≤ length l.few;
  rest : last_at (drop l.k l.few) l.n ≡ None;
}
