use Rattle.pv_check.proofs.calls.+literal_in.Given as goal

abbrev pub decreases-literal_in : goal.decreases-literal_in
decreases-literal_in l = l.n.0
