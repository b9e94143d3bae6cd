use Rattle.std.proofs.Common.{◌≡◌, ◌++◌, drop}
use Rattle.pv_shown.proofs.Walks.{live_lines}
use Rattle.pv_shown.proofs.showing.add_each.Given as goal

abbrev pub invariant-loop-x : goal.invariant-loop-x
invariant-loop-x l = l.text.items ++ live_lines l.names l.n (drop l.x-index l.lives) ≡ l.fn.text.items ++ live_lines l.names l.n l.lives
