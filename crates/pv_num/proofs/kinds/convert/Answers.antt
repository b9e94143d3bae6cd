use Rattle.std.proofs.Common.{refl, FitsSigned}
use Rattle.std.proofs.lemmas.Int.{to_z-of_z}
use mir.Syntax.{w128}
use Rattle.pv_num.proofs.Congruence.{equal_value, equal_fits, equal_congruent}
use Rattle.pv_num.proofs.kinds.convert.Goals as goal

pub returns-clause-value : goal.returns-clause-value
returns-clause-value c =
    let fits : FitsSigned w128 c.converted.result = record { sfits = c.converted.type_inv } in
    let argument : FitsSigned w128 c.args.n = c.ranges.n in
    simp to_z-of_z (equal_value c.args.kind c.args.n c.converted.result (simp to_z-of_z refl) c.converted.ensures)

pub returns-clause-member : goal.returns-clause-member
returns-clause-member c =
    let fits : FitsSigned w128 c.converted.result = record { sfits = c.converted.type_inv } in
    let argument : FitsSigned w128 c.args.n = c.ranges.n in
    simp to_z-of_z (equal_fits c.args.kind c.args.n c.converted.result (simp to_z-of_z refl) c.converted.ensures)

pub returns-clause-congruent : goal.returns-clause-congruent
returns-clause-congruent c =
    let fits : FitsSigned w128 c.converted.result = record { sfits = c.converted.type_inv } in
    let argument : FitsSigned w128 c.args.n = c.ranges.n in
    simp to_z-of_z (equal_congruent c.args.kind c.args.n c.converted.result (simp to_z-of_z refl) c.converted.ensures)
