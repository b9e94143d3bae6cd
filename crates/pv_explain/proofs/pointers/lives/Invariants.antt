use Rattle.std.proofs.Common.{◌≡◌, ◌++◌, drop}
use Rattle.pv_explain.proofs.Walks.{life_lines}
use Rattle.pv_explain.proofs.pointers.lives.Given as goal

abbrev pub invariant-loop-e : goal.invariant-loop-e
invariant-loop-e l = l.text.items ++ life_lines l.known.seen l.known.names (drop l.e-index l.e-items) ≡ life_lines l.known.seen l.known.names l.known.seen
