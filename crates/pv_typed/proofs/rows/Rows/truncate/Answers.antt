use Rattle.std.proofs.Common.{length}
use Rattle.pv_typed.proofs.PackedRows.{packed_take, take_there}
use Rattle.pv_typed.proofs.rows.Rows.truncate.Goals as goal

pub invariant_of-self : goal.invariant_of-self
invariant_of-self c = rw c.truncate.ensures.items (take_there (length c.self.inside.whole.items) c.args.count c.self.inside.packed.items c.self.invariant)

pub returns : goal.returns
returns c = rw c.truncate.ensures.items (packed_take c.self.inside.whole.items c.self.inside.packed.items c.args.self.now c.args.count c.self.view_is)
