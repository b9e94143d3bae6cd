use Rattle.std.proofs.Common.{◌≡◌, drop}
use Rattle.pv_eval.specs.Library.{blame_in}
use Rattle.pv_eval.proofs.asking.blame_in.Given as goal

-- none so far says it
abbrev pub invariant-loop-i : goal.invariant-loop-i
invariant-loop-i l = blame_in (drop l.i l.notes) ≡ blame_in l.notes
