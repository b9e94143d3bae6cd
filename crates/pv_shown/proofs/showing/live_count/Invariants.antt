use Rattle.std.proofs.Common.{◌≡◌, ◌+◌, drop, count_by}
use Rattle.pv_shown.specs.Recorded.{AreEnds, lives_then}
use Rattle.pv_shown.proofs.showing.live_count.Given as goal

abbrev pub invariant-loop-end : goal.invariant-loop-end
invariant-loop-end l = record {
  ends : AreEnds l.rest (drop l.end-index l.ends);
  counted : l.count + count_by (lives_then l.n) l.rest ≡ count_by (lives_then l.n) l.lives;
}
