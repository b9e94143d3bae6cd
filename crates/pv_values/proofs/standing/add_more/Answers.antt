use Rattle.std.proofs.Common.{arith}
use Rattle.pv_values.proofs.Adding.{more_added}
use Rattle.pv_values.proofs.standing.add_more.Goals as goal

pub returns : goal.returns
returns c = more_added c.args.calls _ _ _ _ _ (omega arith) c.in_ok-add.ensures c.in_ok-add_number.ensures c.add-2.ensures
