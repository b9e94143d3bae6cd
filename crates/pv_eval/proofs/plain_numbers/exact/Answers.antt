use Rattle.std.proofs.Common.{◌≡◌, sym, ap, ◌∙◌, ℤ, ◌+ℤ◌, ◌-ℤ◌, ◌*ℤ◌, to_z, of_z, w64}
use Rattle.std.proofs.lemmas.Int.{to_z-of_z}
use Rattle.pv_num.specs.declared.operators.BinOp.TheVariants.{Add, Sub, Mul}
use Rattle.pv_num.specs.Arithmetic.{exact_of}
use Rattle.pv_eval.proofs.PlainNumbers.{joined_some}
use Rattle.pv_eval.proofs.plain_numbers.exact.Goals as goal

pub returns-in-Add : goal.returns-in-Add
returns-in-Add c =
    let x = c.args.x in
    let y = c.args.y in
    let sx : to_z w64 (of_z w64 x) ≡ x = to_z-of_z w64 x c.ranges.x in
    let sy : to_z w64 (of_z w64 y) ≡ y = to_z-of_z w64 y c.ranges.y in
    joined_some c.args.op Add x y _ c.checked_add.result _ c.in-Add.is (λ k. ap (λ (n : ℤ). exact_of k (n +ℤ y)) (sym sx) ∙ ap (λ (n : ℤ). exact_of k (to_z w64 (of_z w64 x) +ℤ n)) (sym sy)) c.checked_add.ensures

pub returns-in-Sub : goal.returns-in-Sub
returns-in-Sub c =
    let x = c.args.x in
    let y = c.args.y in
    let sx : to_z w64 (of_z w64 x) ≡ x = to_z-of_z w64 x c.ranges.x in
    let sy : to_z w64 (of_z w64 y) ≡ y = to_z-of_z w64 y c.ranges.y in
    joined_some c.args.op Sub x y _ c.checked_sub.result _ c.in-Sub.is (λ k. ap (λ (n : ℤ). exact_of k (n -ℤ y)) (sym sx) ∙ ap (λ (n : ℤ). exact_of k (to_z w64 (of_z w64 x) -ℤ n)) (sym sy)) c.checked_sub.ensures

pub returns-in-Mul : goal.returns-in-Mul
returns-in-Mul c =
    let x = c.args.x in
    let y = c.args.y in
    let sx : to_z w64 (of_z w64 x) ≡ x = to_z-of_z w64 x c.ranges.x in
    let sy : to_z w64 (of_z w64 y) ≡ y = to_z-of_z w64 y c.ranges.y in
    joined_some c.args.op Mul x y _ c.checked_mul.result _ c.in-Mul.is (λ k. ap (λ (n : ℤ). exact_of k (n *ℤ y)) (sym sx) ∙ ap (λ (n : ℤ). exact_of k (to_z w64 (of_z w64 x) *ℤ n)) (sym sy)) c.checked_mul.ensures
