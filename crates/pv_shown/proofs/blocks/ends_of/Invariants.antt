use Rattle.std.proofs.Common.{length}
use Rattle.pv_shown.proofs.Parting.{LeadsOn}
use Rattle.pv_shown.proofs.blocks.ends_of.Given as goal

abbrev pub invariant-left : goal.invariant-left
invariant-left l = LeadsOn l.lives l.rest l.ends.items

abbrev pub decreases-left : goal.decreases-left
decreases-left l = length l.rest
