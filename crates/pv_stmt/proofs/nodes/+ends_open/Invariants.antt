use Rattle.pv_stmt.proofs.nodes.+ends_open.Given as goal

abbrev pub decreases-ends_open : goal.decreases-ends_open
decreases-ends_open l = l.n.0
