use Rattle.std.proofs.Common.{◌≡◌, IfSome, Some, FitsSigned, rules, sym, ap, ◌∙◌, subst, ℤ, to_z, of_z, w64}
use Rattle.std.specs.Int.{w128}
use Rattle.std.proofs.lemmas.Int.{to_z-of_z}
use Rattle.pv_num.specs.Kinds.{fits_of}
use Rattle.pv_num.specs.Arithmetic.{binary_of}
use Rattle.pv_world.specs.Suiting.{is_operand}
use Rattle.pv_eval.proofs.PlainNumbers.{calculated_some}
use Rattle.pv_eval.proofs.plain_numbers.calculated.Goals as goal

pub returns-in-Some : goal.returns-in-Some
returns-in-Some c =
    let k = c.args.kind in
    let x = c.args.x in
    let y = c.args.y in
    let fl : FitsSigned w128 c.from-left.result = search rules in
    let fr : FitsSigned w128 c.from-right.result = search rules in
    let fz : FitsSigned w64 c.in-Some.z = search rules in
    let sx : to_z w64 (of_z w64 x) ≡ x = to_z-of_z w64 x c.ranges.x in
    let sy : to_z w64 (of_z w64 y) ≡ y = to_z-of_z w64 y c.ranges.y in
    let left : to_z w128 (of_z w128 c.from-left.result) ≡ x = to_z-of_z w128 c.from-left.result fl ∙ c.from-left.ensures ∙ sx in
    let right : to_z w128 (of_z w128 c.from-right.result) ≡ y = to_z-of_z w128 c.from-right.result fr ∙ c.from-right.ensures ∙ sy in
    calculated_some c.args.op k x y c.in-Some.z (Some (to_z w64 (of_z w64 c.in-Some.z)))
    (sym c.is_promoted.ensures.value ∙ c.if-not-is_promoted.false)
    (ap (fits_of k) (sym left) ∙ sym c.fits.ensures.value ∙ c.if-not-fits.false)
    (ap (is_operand c.args.op k) (sym right) ∙ sym c.is_operand.ensures.value ∙ c.if-not-is_operand.false)
    (ap (λ (n : ℤ). binary_of c.args.op k n y) (sym sx) ∙ ap (binary_of c.args.op k (to_z w64 (of_z w64 x))) (sym sy) ∙ c.in-Some.ensures)
    (to_z-of_z w64 c.in-Some.z fz)

pub returns-in-Ok : goal.returns-in-Ok
returns-in-Ok c =
    let k = c.args.kind in
    let fl : FitsSigned w128 c.from-left.result = search rules in
    let fr : FitsSigned w128 c.from-right.result = search rules in
    let fz : FitsSigned w128 c.in-Ok.z = search rules in
    let left : to_z w128 (of_z w128 c.from-left.result) ≡ c.args.x = to_z-of_z w128 c.from-left.result fl ∙ c.from-left.ensures ∙ to_z-of_z w64 c.args.x c.ranges.x in
    let right : to_z w128 (of_z w128 c.from-right.result) ≡ c.args.y = to_z-of_z w128 c.from-right.result fr ∙ c.from-right.ensures ∙ to_z-of_z w64 c.args.y c.ranges.y in
    calculated_some c.args.op k c.args.x c.args.y c.in-Ok.z c.small.result
    (sym c.is_promoted.ensures.value ∙ c.if-not-is_promoted.false)
    (ap (fits_of k) (sym left) ∙ sym c.fits.ensures.value ∙ c.if-not-fits.false)
    (ap (is_operand c.args.op k) (sym right) ∙ sym c.is_operand.ensures.value ∙ c.if-not-is_operand.false)
    (ap (λ (n : ℤ). binary_of c.args.op k n c.args.y) (sym left) ∙ ap (binary_of c.args.op k (to_z w128 (of_z w128 c.from-left.result))) (sym right) ∙ sym c.binary.ensures.value ∙ c.in-Ok.is)
    (subst (λ (z : ℤ). IfSome c.small.result (λ q. q ≡ z)) (to_z-of_z w128 c.in-Ok.z fz) c.small.ensures)
