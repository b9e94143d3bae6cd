use Rattle.std.proofs.Common.{sym, ◌∙◌}
use Rattle.pv_shown.proofs.Parting.{over_count}
use Rattle.pv_shown.proofs.showing.block_count.Goals as goal

pub returns-then-came : goal.returns-then-came
returns-then-came c = over_count c.args.n c.args.end c.args.block.now c.requires (sym c.came.ensures ∙ c.if-came.true)
