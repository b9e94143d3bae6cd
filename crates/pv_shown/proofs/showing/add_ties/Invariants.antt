use Rattle.std.proofs.Common.{◌≡◌, ◌++◌, ◌+◌, ◌≤◌, drop}
use Rattle.pv_shown.proofs.Walks.{tie_lines}
use Rattle.pv_shown.proofs.showing.add_ties.Given as goal

abbrev pub invariant-loop-tie : goal.invariant-loop-tie
invariant-loop-tie l = record {
  near : l.number ≤ l.tie-index + 1;
  lines : l.text.items ++ tie_lines l.names l.n l.number (drop l.tie-index l.ties) ≡ l.fn.text.items ++ tie_lines l.names l.n 1 l.ties;
}
