use Rattle.std.proofs.Common.{◌≡◌, refl, FitsSigned, to_z, of_z}
use Rattle.std.proofs.lemmas.Int.{to_z-of_z}
use mir.Syntax.{w128}
use Rattle.pv_num.proofs.Members.{binary_yields}
use Rattle.pv_num.proofs.operators.binary.Goals as goal

pub returns-clause-member : goal.returns-clause-member
returns-clause-member c =
    let left : FitsSigned w128 c.args.a = c.ranges.a in
    let same : to_z w128 (of_z w128 c.args.a) ≡ c.args.a = simp to_z-of_z refl in
    binary_yields c.args.op c.args.kind _ c.args.a _ (to_z w128 (of_z w128 c.args.b)) same c.requires.promoted c.requires.left c.computed.ensures
