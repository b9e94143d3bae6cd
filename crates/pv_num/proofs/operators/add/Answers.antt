use Rattle.std.proofs.Common.{FitsSigned}
use Rattle.std.proofs.lemmas.Int.{to_z-of_z}
use mir.Syntax.{w128}
use Rattle.pv_num.proofs.Products.{member_convertible}
use Rattle.pv_num.proofs.operators.add.Goals as goal

pub sum-requires-clause-left : goal.sum-requires-clause-left
sum-requires-clause-left c =
    let fits : FitsSigned w128 c.args.a = c.ranges.a in
    simp to_z-of_z (member_convertible c.args.kind c.args.a c.requires.left)

pub sum-requires-clause-right : goal.sum-requires-clause-right
sum-requires-clause-right c =
    let fits : FitsSigned w128 c.args.b = c.ranges.b in
    simp to_z-of_z (member_convertible c.args.kind c.args.b c.requires.right)
