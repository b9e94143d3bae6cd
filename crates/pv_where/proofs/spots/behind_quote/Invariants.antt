use Rattle.std.proofs.Common.{◌≡◌, length}
use Rattle.pv_where.specs.Spots.{behind_quote}
use Rattle.pv_where.proofs.spots.behind_quote.Given as goal

abbrev pub invariant-loop-rest : goal.invariant-loop-rest
invariant-loop-rest l = behind_quote l.text ≡ behind_quote l.rest

abbrev pub decreases-loop-rest : goal.decreases-loop-rest
decreases-loop-rest l = length l.rest
