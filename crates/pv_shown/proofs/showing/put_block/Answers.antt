use Rattle.std.proofs.Common.{map, sym, ◌∙◌}
use Rattle.pv_shown.specs.Recorded.{held_then}
use Rattle.pv_shown.proofs.Parting.{over_found}
use Rattle.pv_shown.proofs.showing.put_block.Goals as goal

pub returns-then-came : goal.returns-then-came
returns-then-came c = λ names.
    over_found names c.args.n c.args.a c.args.end c.args.block.now (map (held_then names c.args.n) c.args.found.now.items) c.requires (sym c.came.ensures ∙ c.if-came.true)
