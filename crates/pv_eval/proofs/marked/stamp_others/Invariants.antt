use Rattle.std.proofs.Common.{◌≡◌, ◌++◌, drop}
use Rattle.pv_eval.specs.Acting.{marked_events, without_use}
use Rattle.pv_eval.proofs.marked.stamp_others.Given as goal

-- what is noted so far, with what is left, is all
abbrev pub invariant-loop-i : goal.invariant-loop-i
invariant-loop-i l = l.waiting.items ++ marked_events l.turn l.mark (without_use l.pair (drop l.i l.told)) ≡ l.fn.waiting.items ++ marked_events l.turn l.mark (without_use l.pair l.told)
