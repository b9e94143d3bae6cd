use Rattle.std.proofs.Common.{◌≡◌, drop}
use Rattle.pv_watch.specs.Lines.{first_told}
use Rattle.pv_watch.specs.Kinds.{suspects_of}
use Rattle.pv_explain.proofs.explain.suspected.Given as goal

abbrev pub invariant-loop-e : goal.invariant-loop-e
invariant-loop-e l = first_told suspects_of (drop l.e-index l.seen) ≡ first_told suspects_of l.seen
