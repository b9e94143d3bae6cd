use Rattle.std.proofs.Common.{take}
use Rattle.pv_shown.proofs.Parting.{AllEnded}
use Rattle.pv_shown.proofs.blocks.end_of.Given as goal

abbrev pub invariant-loop-x : goal.invariant-loop-x
invariant-loop-x l = AllEnded l.last (take l.x-index l.block)
