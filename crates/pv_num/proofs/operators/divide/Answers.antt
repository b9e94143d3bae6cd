use Rattle.std.proofs.Common.{FitsSigned}
use Rattle.std.proofs.lemmas.Int.{to_z-of_z}
use mir.Syntax.{w128}
use Rattle.pv_num.proofs.Quotients.{member_short}
use Rattle.pv_num.proofs.operators.divide.Goals as goal

pub quotient-quotient-requires-clause-dividend : goal.quotient-quotient-requires-clause-dividend
quotient-quotient-requires-clause-dividend c =
    let fits : FitsSigned w128 c.args.a = c.ranges.a in
    simp to_z-of_z (member_short c.args.kind c.args.a c.requires.left)

pub quotient-quotient-requires-clause-divisor : goal.quotient-quotient-requires-clause-divisor
quotient-quotient-requires-clause-divisor c =
    let fits : FitsSigned w128 c.args.b = c.ranges.b in
    simp to_z-of_z (member_short c.args.kind c.args.b c.requires.right)
