use Rattle.std.proofs.Common.{◌+◌, ◌*◌}
use Rattle.pv_eval.proofs.plain_coded.+value_by.Given as goal

abbrev pub decreases-by_node : goal.decreases-by_node
decreases-by_node l = l.n.0 * 3

abbrev pub decreases-composed : goal.decreases-composed
decreases-composed l = l.n.0 * 3 + 1

abbrev pub decreases-value_by : goal.decreases-value_by
decreases-value_by l = l.n.0 * 3 + 2
