use Rattle.std.proofs.Common.{arith}
use Rattle.pv_tree.proofs.Shortened.{rows_count}
use Rattle.pv_tree.proofs.rows.Rows.len.Goals as goal

pub returns : goal.returns
returns c = omega (arith, c.len.ensures, c.self.inside.short.ok.0, rows_count c.self.inside.whole.items c.self.inside.short.items c.args.self.now c.self.view_is)
