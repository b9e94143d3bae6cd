use Rattle.std.proofs.Common.{◌<◌, length, arith, eqb-true}
use Rattle.pv_types.proofs.Numbered.{named_at}
use Rattle.pv_types.proofs.naming.is_named.Goals as goal

pub returns-then-place-members : goal.returns-then-place-members
returns-then-place-members c = λ h.
    let lt : c.args.number < length c.args.members.now = omega (arith, c.if-place-members.true) in
    named_at c.args.members.now c.args.number c.args.name _ lt c.requires (eqb-true _ _ h)
