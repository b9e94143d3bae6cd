use Rattle.std.proofs.Common.{◌≡◌, ◌∙◌, ap, sym, subst, refl, ℤ, FitsSigned, to_z, of_z}
use Rattle.std.specs.declared.result.Result.{Result}
use Rattle.std.proofs.lemmas.Int.{to_z-of_z}
use mir.Syntax.{w128}
use Rattle.pv_num.specs.declared.operators.ArithmeticFault.{ArithmeticFault}
use Rattle.pv_num.specs.declared.kinds.IntKind.{IntKind}
use Rattle.pv_num.specs.declared.operators.BinOp.{BinOp}
use Rattle.pv_num.specs.declared.operators.BinOp.TheVariants.{Add, Sub, Mul, Div, Rem, Shl, Shr}
use Rattle.pv_num.specs.Arithmetic.{binary_of}
use Rattle.pv_num.specs.Operands.{IsOperand}
use Rattle.pv_num.proofs.operators.computed.Goals as goal

-- the answer of an operator is that of the one that was asked for, under the operands' own names
as_asked : (op o : BinOp) (k : IntKind) (a b : ℤ) {a' b' : ℤ} {r : Result ℤ ArithmeticFault} → op ≡ o → a' ≡ a → b' ≡ b → r ≡ binary_of o k a' b' → r ≡ binary_of op k a b
as_asked op o k a b {a'} {b'} is left right e = e ∙ ap (λ x. binary_of o k x b') left ∙ ap (binary_of o k a) right ∙ ap (λ p. binary_of p k a b) (sym is)

pub add-requires-clause-left : goal.add-requires-clause-left
add-requires-clause-left c =
    let a : FitsSigned w128 c.args.a = c.ranges.a in
    simp to_z-of_z c.requires.left

pub add-requires-clause-right : goal.add-requires-clause-right
add-requires-clause-right c =
    let b : FitsSigned w128 c.args.b = c.ranges.b in
    simp to_z-of_z (subst (λ op. IsOperand op c.args.kind c.args.b) c.in-Add.is c.requires.right)

pub returns-in-Add : goal.returns-in-Add
returns-in-Add c =
    let a : FitsSigned w128 c.args.a = c.ranges.a in
    let b : FitsSigned w128 c.args.b = c.ranges.b in
    let same_a : to_z w128 (of_z w128 c.args.a) ≡ c.args.a = simp to_z-of_z refl in
    let same_b : to_z w128 (of_z w128 c.args.b) ≡ c.args.b = simp to_z-of_z refl in
    as_asked c.args.op Add c.args.kind c.args.a c.args.b c.in-Add.is same_a same_b c.add.ensures

pub subtract-requires-clause-left : goal.subtract-requires-clause-left
subtract-requires-clause-left c =
    let a : FitsSigned w128 c.args.a = c.ranges.a in
    simp to_z-of_z c.requires.left

pub subtract-requires-clause-right : goal.subtract-requires-clause-right
subtract-requires-clause-right c =
    let b : FitsSigned w128 c.args.b = c.ranges.b in
    simp to_z-of_z (subst (λ op. IsOperand op c.args.kind c.args.b) c.in-Sub.is c.requires.right)

pub returns-in-Sub : goal.returns-in-Sub
returns-in-Sub c =
    let a : FitsSigned w128 c.args.a = c.ranges.a in
    let b : FitsSigned w128 c.args.b = c.ranges.b in
    let same_a : to_z w128 (of_z w128 c.args.a) ≡ c.args.a = simp to_z-of_z refl in
    let same_b : to_z w128 (of_z w128 c.args.b) ≡ c.args.b = simp to_z-of_z refl in
    as_asked c.args.op Sub c.args.kind c.args.a c.args.b c.in-Sub.is same_a same_b c.subtract.ensures

pub multiply-requires-clause-left : goal.multiply-requires-clause-left
multiply-requires-clause-left c =
    let a : FitsSigned w128 c.args.a = c.ranges.a in
    simp to_z-of_z c.requires.left

pub multiply-requires-clause-right : goal.multiply-requires-clause-right
multiply-requires-clause-right c =
    let b : FitsSigned w128 c.args.b = c.ranges.b in
    simp to_z-of_z (subst (λ op. IsOperand op c.args.kind c.args.b) c.in-Mul.is c.requires.right)

pub returns-in-Mul : goal.returns-in-Mul
returns-in-Mul c =
    let a : FitsSigned w128 c.args.a = c.ranges.a in
    let b : FitsSigned w128 c.args.b = c.ranges.b in
    let same_a : to_z w128 (of_z w128 c.args.a) ≡ c.args.a = simp to_z-of_z refl in
    let same_b : to_z w128 (of_z w128 c.args.b) ≡ c.args.b = simp to_z-of_z refl in
    as_asked c.args.op Mul c.args.kind c.args.a c.args.b c.in-Mul.is same_a same_b c.multiply.ensures

pub divide-requires-clause-left : goal.divide-requires-clause-left
divide-requires-clause-left c =
    let a : FitsSigned w128 c.args.a = c.ranges.a in
    simp to_z-of_z c.requires.left

pub divide-requires-clause-right : goal.divide-requires-clause-right
divide-requires-clause-right c =
    let b : FitsSigned w128 c.args.b = c.ranges.b in
    simp to_z-of_z (subst (λ op. IsOperand op c.args.kind c.args.b) c.in-Div.is c.requires.right)

pub returns-in-Div : goal.returns-in-Div
returns-in-Div c =
    let a : FitsSigned w128 c.args.a = c.ranges.a in
    let b : FitsSigned w128 c.args.b = c.ranges.b in
    let same_a : to_z w128 (of_z w128 c.args.a) ≡ c.args.a = simp to_z-of_z refl in
    let same_b : to_z w128 (of_z w128 c.args.b) ≡ c.args.b = simp to_z-of_z refl in
    as_asked c.args.op Div c.args.kind c.args.a c.args.b c.in-Div.is same_a same_b c.divide.ensures

pub divide_for_remainder-requires-clause-left : goal.divide_for_remainder-requires-clause-left
divide_for_remainder-requires-clause-left c =
    let a : FitsSigned w128 c.args.a = c.ranges.a in
    simp to_z-of_z c.requires.left

pub divide_for_remainder-requires-clause-right : goal.divide_for_remainder-requires-clause-right
divide_for_remainder-requires-clause-right c =
    let b : FitsSigned w128 c.args.b = c.ranges.b in
    simp to_z-of_z (subst (λ op. IsOperand op c.args.kind c.args.b) c.in-Rem.is c.requires.right)

pub returns-in-Rem : goal.returns-in-Rem
returns-in-Rem c =
    let a : FitsSigned w128 c.args.a = c.ranges.a in
    let b : FitsSigned w128 c.args.b = c.ranges.b in
    let same_a : to_z w128 (of_z w128 c.args.a) ≡ c.args.a = simp to_z-of_z refl in
    let same_b : to_z w128 (of_z w128 c.args.b) ≡ c.args.b = simp to_z-of_z refl in
    as_asked c.args.op Rem c.args.kind c.args.a c.args.b c.in-Rem.is same_a same_b c.divide_for_remainder.ensures

pub shift_left-requires : goal.shift_left-requires
shift_left-requires c =
    let a : FitsSigned w128 c.args.a = c.ranges.a in
    simp to_z-of_z c.requires.left

pub returns-in-Shl : goal.returns-in-Shl
returns-in-Shl c =
    let a : FitsSigned w128 c.args.a = c.ranges.a in
    let b : FitsSigned w128 c.args.b = c.ranges.b in
    let same_a : to_z w128 (of_z w128 c.args.a) ≡ c.args.a = simp to_z-of_z refl in
    let same_b : to_z w128 (of_z w128 c.args.b) ≡ c.args.b = simp to_z-of_z refl in
    as_asked c.args.op Shl c.args.kind c.args.a c.args.b c.in-Shl.is same_a same_b c.shift_left.ensures

pub shift_right-requires : goal.shift_right-requires
shift_right-requires c =
    let a : FitsSigned w128 c.args.a = c.ranges.a in
    simp to_z-of_z c.requires.left

pub returns-in-Shr : goal.returns-in-Shr
returns-in-Shr c =
    let a : FitsSigned w128 c.args.a = c.ranges.a in
    let b : FitsSigned w128 c.args.b = c.ranges.b in
    let same_a : to_z w128 (of_z w128 c.args.a) ≡ c.args.a = simp to_z-of_z refl in
    let same_b : to_z w128 (of_z w128 c.args.b) ≡ c.args.b = simp to_z-of_z refl in
    as_asked c.args.op Shr c.args.kind c.args.a c.args.b c.in-Shr.is same_a same_b c.shift_right.ensures
