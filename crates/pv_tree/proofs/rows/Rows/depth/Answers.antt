use Rattle.std.proofs.Common.{ap, arith}
use Rattle.pv_tree.specs.declared.rows.Row.{Row}
use Rattle.pv_tree.proofs.Shortened.{rows_count, row_read}
use Rattle.pv_tree.proofs.rows.Rows.depth.Goals as goal

pub index-requires : goal.index-requires
index-requires c = omega (arith, c.requires, c.self.inside.short.ok.0, rows_count c.self.inside.whole.items c.self.inside.short.items c.args.self.now c.self.view_is)

pub returns : goal.returns
returns c = ap (λ (r : Row). r.depth) (row_read c.self.inside.whole.items c.self.inside.short.items c.args.self.now c.self.view_is c.args.i c.requires c.index.result.now c.index.ensures)
