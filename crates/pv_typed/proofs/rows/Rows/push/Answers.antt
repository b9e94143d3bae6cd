use Rattle.std.proofs.Common.{length}
use Rattle.pv_typed.proofs.PackedRows.{packed_more, packed_there}
use Rattle.pv_typed.proofs.rows.Rows.push.Goals as goal

pub invariant_of-self-in-Some : goal.invariant_of-self-in-Some
invariant_of-self-in-Some c =
    rw c.in_ok-push-in-Some.ensures.items
    (packed_there (length c.self.inside.whole.items) c.self.inside.packed.items c.in-Some.packed c.self.invariant (c.in-Some.ensures.there (length c.self.inside.whole.items)))

pub returns-in_ok-push-in-Some-clause-added : goal.returns-in_ok-push-in-Some-clause-added
returns-in_ok-push-in-Some-clause-added c =
    rw c.in_ok-push-in-Some.ensures.items
    (packed_more c.self.inside.whole.items c.self.inside.packed.items c.in-Some.packed c.args.self.now c.args.row c.self.view_is (c.in-Some.ensures.row c.self.inside.whole.items))
