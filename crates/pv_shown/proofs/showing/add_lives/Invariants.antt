use Rattle.std.proofs.Common.{◌≡◌, ◌++◌, drop}
use Rattle.pv_shown.specs.Recorded.{AreEnds}
use Rattle.pv_shown.proofs.Walks.{live_lines}
use Rattle.pv_shown.proofs.showing.add_lives.Given as goal

abbrev pub invariant-loop-end : goal.invariant-loop-end
invariant-loop-end l = record {
  ends : AreEnds l.rest (drop l.end-index l.ends);
  lines : l.text.items ++ live_lines l.names l.n l.rest ≡ l.fn.text.items ++ live_lines l.names l.n l.lives;
}
