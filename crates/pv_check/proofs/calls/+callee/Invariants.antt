use Rattle.pv_check.proofs.calls.+callee.Given as goal

abbrev pub decreases-callee : goal.decreases-callee
decreases-callee l = l.n.0
