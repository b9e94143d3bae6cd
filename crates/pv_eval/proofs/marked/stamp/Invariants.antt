use Rattle.std.proofs.Common.{◌≡◌, ◌++◌, drop}
use Rattle.pv_eval.specs.Acting.{marked_events}
use Rattle.pv_eval.proofs.marked.stamp.Given as goal

-- what is noted so far, with what is left, is all
abbrev pub invariant-loop-i : goal.invariant-loop-i
invariant-loop-i l = record {
  rest : l.waiting.items ++ marked_events l.turn l.mark (drop l.i l.told) ≡ l.fn.waiting.items ++ marked_events l.turn l.mark l.told;
}
