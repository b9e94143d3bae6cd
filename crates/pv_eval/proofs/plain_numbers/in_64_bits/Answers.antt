use Rattle.std.proofs.Common.{◌≡◌, subst, ℤ, to_z, of_z, w64}
use Rattle.std.specs.Prelude.{IfSome, Ok}
use Rattle.std.proofs.lemmas.Int.{to_z-of_z}
use Rattle.pv_num.specs.Arithmetic.{binary_of}
use Rattle.pv_eval.proofs.plain_numbers.in_64_bits.Goals as goal

pub joined-requires : goal.joined-requires
joined-requires c = c.is_int_or_long.ensures c.if-not-is_int_or_long.false

pub joined-requires-in-Sub : goal.joined-requires-in-Sub
joined-requires-in-Sub c = c.is_int_or_long.ensures c.if-not-is_int_or_long.false

pub joined-requires-in-Mul : goal.joined-requires-in-Mul
joined-requires-in-Mul c = c.is_int_or_long.ensures c.if-not-is_int_or_long.false

pub returns-in-Add : goal.returns-in-Add
returns-in-Add c =
    let x = c.args.x in
    let y = c.args.y in
    let sx : to_z w64 (of_z w64 x) ≡ x = to_z-of_z w64 x c.ranges.x in
    let sy : to_z w64 (of_z w64 y) ≡ y = to_z-of_z w64 y c.ranges.y in
    subst (λ (m : ℤ). IfSome c.joined.result (λ z. binary_of c.args.op c.args.kind m y ≡ Ok z)) sx (subst (λ (m : ℤ). IfSome c.joined.result (λ z. binary_of c.args.op c.args.kind (to_z w64 (of_z w64 x)) m ≡ Ok z)) sy c.joined.ensures)

pub returns-in-Sub : goal.returns-in-Sub
returns-in-Sub c =
    let x = c.args.x in
    let y = c.args.y in
    let sx : to_z w64 (of_z w64 x) ≡ x = to_z-of_z w64 x c.ranges.x in
    let sy : to_z w64 (of_z w64 y) ≡ y = to_z-of_z w64 y c.ranges.y in
    subst (λ (m : ℤ). IfSome c.joined-in-Sub.result (λ z. binary_of c.args.op c.args.kind m y ≡ Ok z)) sx (subst (λ (m : ℤ). IfSome c.joined-in-Sub.result (λ z. binary_of c.args.op c.args.kind (to_z w64 (of_z w64 x)) m ≡ Ok z)) sy c.joined-in-Sub.ensures)

pub returns-in-Mul : goal.returns-in-Mul
returns-in-Mul c =
    let x = c.args.x in
    let y = c.args.y in
    let sx : to_z w64 (of_z w64 x) ≡ x = to_z-of_z w64 x c.ranges.x in
    let sy : to_z w64 (of_z w64 y) ≡ y = to_z-of_z w64 y c.ranges.y in
    subst (λ (m : ℤ). IfSome c.joined-in-Mul.result (λ z. binary_of c.args.op c.args.kind m y ≡ Ok z)) sx (subst (λ (m : ℤ). IfSome c.joined-in-Mul.result (λ z. binary_of c.args.op c.args.kind (to_z w64 (of_z w64 x)) m ≡ Ok z)) sy c.joined-in-Mul.ensures)

pub returns-in-Div : goal.returns-in-Div
returns-in-Div c =
    let x = c.args.x in
    let y = c.args.y in
    let sx : to_z w64 (of_z w64 x) ≡ x = to_z-of_z w64 x c.ranges.x in
    let sy : to_z w64 (of_z w64 y) ≡ y = to_z-of_z w64 y c.ranges.y in
    subst (λ (m : ℤ). IfSome c.divided.result (λ z. binary_of c.args.op c.args.kind m y ≡ Ok z)) sx (subst (λ (m : ℤ). IfSome c.divided.result (λ z. binary_of c.args.op c.args.kind (to_z w64 (of_z w64 x)) m ≡ Ok z)) sy c.divided.ensures)

pub returns-in-Rem : goal.returns-in-Rem
returns-in-Rem c =
    let x = c.args.x in
    let y = c.args.y in
    let sx : to_z w64 (of_z w64 x) ≡ x = to_z-of_z w64 x c.ranges.x in
    let sy : to_z w64 (of_z w64 y) ≡ y = to_z-of_z w64 y c.ranges.y in
    subst (λ (m : ℤ). IfSome c.divided-in-Rem.result (λ z. binary_of c.args.op c.args.kind m y ≡ Ok z)) sx (subst (λ (m : ℤ). IfSome c.divided-in-Rem.result (λ z. binary_of c.args.op c.args.kind (to_z w64 (of_z w64 x)) m ≡ Ok z)) sy c.divided-in-Rem.ensures)

pub returns-in_default : goal.returns-in_default
returns-in_default c =
    let x = c.args.x in
    let y = c.args.y in
    let sx : to_z w64 (of_z w64 x) ≡ x = to_z-of_z w64 x c.ranges.x in
    let sy : to_z w64 (of_z w64 y) ≡ y = to_z-of_z w64 y c.ranges.y in
    subst (λ (m : ℤ). IfSome c.order.result (λ z. binary_of c.args.op c.args.kind m y ≡ Ok z)) sx (subst (λ (m : ℤ). IfSome c.order.result (λ z. binary_of c.args.op c.args.kind (to_z w64 (of_z w64 x)) m ≡ Ok z)) sy c.order.ensures)
