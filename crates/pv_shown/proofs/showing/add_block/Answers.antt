use Rattle.std.proofs.Common.{◌++◌, ap, sym, ◌∙◌, append-nil}
use Rattle.pv_shown.proofs.Parting.{over_lines}
use Rattle.pv_shown.proofs.showing.add_block.Goals as goal

pub returns-then-came : goal.returns-then-came
returns-then-came c =
    sym (ap (λ l. c.args.text.now.items ++ l) (over_lines c.args.names.now c.args.n c.args.end c.args.block.now c.requires (sym c.came.ensures ∙ c.if-came.true)) ∙ append-nil c.args.text.now.items)
