use Rattle.std.proofs.Common.{◌≡◌, ℕ, ◌+◌, ◌≤◌, length}
use Rattle.std.specs.Prelude.{fold}
use Rattle.pv_where.specs.Spots.{spot_behind, spot_at, row_to}
use Rattle.pv_where.proofs.spots.spot.Given as goal

abbrev pub invariant-loop-found : goal.invariant-loop-found
invariant-loop-found l = record {
  room : length l.rest ≤ length l.source;
  before : l.left ≤ length l.rest;
  lines : l.line + length l.rest ≤ 2147483647 + length l.source;
  walk : (most : ℕ) × (length l.rest ≤ most)
      × (fold spot_behind (record { file = l.file; place = record { text = l.rest; line = l.line; fresh = l.fresh } }) (row_to l.left most (record { text = l.rest; line = l.line; fresh = l.fresh }))
      ≡ spot_at l.name l.source l.place);
}

abbrev pub decreases-loop-found : goal.decreases-loop-found
decreases-loop-found l = length l.rest
