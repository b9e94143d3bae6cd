use Rattle.std.proofs.Common.{◌≡◌, ◌∙◌, ap, sym, subst, refl, ℤ, neg_ℤ, Ok, IfOk, FitsSigned, to_z, of_z}
use Rattle.std.specs.declared.result.Result.{Result}
use Rattle.std.proofs.lemmas.Int.{to_z-of_z}
use mir.Syntax.{w128}
use Rattle.pv_num.specs.declared.operators.ArithmeticFault.{ArithmeticFault}
use Rattle.pv_num.specs.declared.operators.UnOp.TheVariants.{Minus, Flip}
use Rattle.pv_num.specs.Kinds.{Fits}
use Rattle.pv_num.specs.Arithmetic.{complement_of, exact_of, unary_of}
use Rattle.pv_num.proofs.Members.{unary_fits}
use Rattle.pv_num.proofs.operators.unary.Goals as goal

pub returns-in-Plus-clause-value : goal.returns-in-Plus-clause-value
returns-in-Plus-clause-value c =
    let fits : FitsSigned w128 c.args.a = c.ranges.a in
    simp to_z-of_z (ap (λ op. unary_of op c.args.kind c.args.a) (sym c.in-Plus.is))

pub returns-in-Plus-clause-member : goal.returns-in-Plus-clause-member
returns-in-Plus-clause-member c =
    let fits : FitsSigned w128 c.args.a = c.ranges.a in
    simp to_z-of_z c.requires.operand

pub returns-in-Minus-clause-value : goal.returns-in-Minus-clause-value
returns-in-Minus-clause-value c =
    let fits : FitsSigned w128 c.args.a = c.ranges.a in
    let same : to_z w128 (of_z w128 c.args.a) ≡ c.args.a = simp to_z-of_z refl in
    c.negate.ensures ∙ ap (λ x. exact_of c.args.kind (neg_ℤ x)) same ∙ ap (λ op. unary_of op c.args.kind c.args.a) (sym c.in-Minus.is)

pub returns-in-Minus-clause-member : goal.returns-in-Minus-clause-member
returns-in-Minus-clause-member c =
    let fits : FitsSigned w128 c.args.a = c.ranges.a in
    let same : to_z w128 (of_z w128 c.args.a) ≡ c.args.a = simp to_z-of_z refl in
    let is = c.negate.ensures ∙ ap (λ x. exact_of c.args.kind (neg_ℤ x)) same in
    subst (λ (r : Result ℤ ArithmeticFault). IfOk r (Fits c.args.kind)) (sym is) (unary_fits Minus c.args.kind c.args.a c.requires.promoted c.requires.operand)

pub returns-in-Flip-clause-value : goal.returns-in-Flip-clause-value
returns-in-Flip-clause-value c =
    let fits : FitsSigned w128 c.args.a = c.ranges.a in
    let same : to_z w128 (of_z w128 c.args.a) ≡ c.args.a = simp to_z-of_z refl in
    let result : FitsSigned w128 c.complement.result = record { sfits = c.complement.type_inv } in
    let is : c.complement.result ≡ complement_of c.args.kind c.args.a = c.complement.ensures ∙ ap (complement_of c.args.kind) same in
    simp to_z-of_z (ap Ok is ∙ ap (λ op. unary_of op c.args.kind c.args.a) (sym c.in-Flip.is))

pub returns-in-Flip-clause-member : goal.returns-in-Flip-clause-member
returns-in-Flip-clause-member c =
    let fits : FitsSigned w128 c.args.a = c.ranges.a in
    let same : to_z w128 (of_z w128 c.args.a) ≡ c.args.a = simp to_z-of_z refl in
    let result : FitsSigned w128 c.complement.result = record { sfits = c.complement.type_inv } in
    let is : c.complement.result ≡ complement_of c.args.kind c.args.a = c.complement.ensures ∙ ap (complement_of c.args.kind) same in
    simp to_z-of_z (subst (Fits c.args.kind) (sym is) (unary_fits Flip c.args.kind c.args.a c.requires.promoted c.requires.operand))
