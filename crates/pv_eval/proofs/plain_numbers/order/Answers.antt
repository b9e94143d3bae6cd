use Rattle.std.proofs.Common.{◌≡◌, FitsSigned, rules, sym, ap, ◌∙◌, ℤ, Ok, to_z, of_z, w64}
use Rattle.std.proofs.lemmas.Int.{to_z-of_z}
use Rattle.pv_num.specs.Arithmetic.{binary_of}
use Rattle.pv_eval.proofs.plain_numbers.order.Goals as goal

pub returns : goal.returns
returns c =
    let op = c.args.op in
    let k = c.args.kind in
    let x = c.args.x in
    let y = c.args.y in
    let sx : to_z w64 (of_z w64 x) ≡ x = to_z-of_z w64 x c.ranges.x in
    let sy : to_z w64 (of_z w64 y) ≡ y = to_z-of_z w64 y c.ranges.y in
    let f : FitsSigned w64 c.one_if.result = search rules in
    ap (λ (m : ℤ). binary_of op k m y) (sym sx) ∙ ap (binary_of op k (to_z w64 (of_z w64 x))) (sym sy) ∙ c.in_ok-holds.ensures k
    ∙ ap Ok (sym (to_z-of_z w64 c.one_if.result f ∙ c.one_if.ensures))
