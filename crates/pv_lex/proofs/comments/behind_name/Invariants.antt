use Rattle.std.proofs.Common.{◌≡◌, false, length}
use Rattle.pv_lex.specs.Markers.{behind_name}
use Rattle.pv_lex.proofs.comments.behind_name.Given as goal

abbrev pub invariant-loop-rest : goal.invariant-loop-rest
invariant-loop-rest l = behind_name false l.text ≡ behind_name l.taken l.rest

abbrev pub decreases-loop-rest : goal.decreases-loop-rest
decreases-loop-rest l = length l.rest
