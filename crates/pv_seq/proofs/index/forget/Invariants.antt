use Rattle.pv_seq.specs.Found.{AreFound}
use Rattle.pv_seq.proofs.index.forget.Given as goal

abbrev pub invariant-loop-index : goal.invariant-loop-index
invariant-loop-index l = AreFound l.index l.accesses

abbrev pub decreases-loop-index : goal.decreases-loop-index
decreases-loop-index l = l.index.known
