use Rattle.std.proofs.Common.{FitsSigned, rules, sym, subst, ℤ, w64, to_z, of_z}
use Rattle.std.proofs.lemmas.Int.{to_z-of_z}
use Rattle.pv_world.specs.Worths.{int}
use Rattle.pv_eval.specs.Operations.{Calculates}
use Rattle.pv_eval.specs.Plainly.{AlwaysGives, found_worth}
use Rattle.pv_eval.proofs.PlainNumbers.{operated_some}
use Rattle.pv_eval.proofs.plain_numbers.operated.Goals as goal

pub returns-in-Some : goal.returns-in-Some
returns-in-Some c =
    let op = c.args.op in
    let k = c.args.kind in
    let v = c.args.v in
    let w = c.args.w in
    let fx : FitsSigned w64 c.in_ok-x.x = search rules in
    let fy : FitsSigned w64 c.in_ok-y.y = search rules in
    let fz : FitsSigned w64 c.in-Some.z = search rules in
    let h : AlwaysGives (λ b. Calculates op k (int (to_z w64 (of_z w64 c.in_ok-x.x))) (int (to_z w64 (of_z w64 c.in_ok-y.y)))) (int c.in-Some.z) = c.in-Some.ensures in
    subst (λ (z : ℤ). AlwaysGives (λ b. Calculates op k (found_worth v) (found_worth w)) (int z)) (sym (to_z-of_z w64 c.in-Some.z fz))
    (operated_some op k v w _ _ _ _ _ c.in_ok-x.ensures c.in_ok-y.ensures (to_z-of_z w64 c.in_ok-x.x fx) (to_z-of_z w64 c.in_ok-y.y fy) h)
