use Rattle.std.proofs.Common.{◌≡◌, ◌∙◌, ap, sym, refl, ℤ, Bool, true, false, if◌then◌else◌, Ok, Err, int_div, int_rem, FitsSigned, to_z, of_z}
use Rattle.std.proofs.lemmas.Int.{to_z-of_z}
use mir.Syntax.{w128}
use Rattle.pv_num.specs.Kinds.{fits_of}
use Rattle.pv_num.specs.declared.operators.ArithmeticFault.TheVariants.{ZeroDivisor, Quotient}
use Rattle.pv_num.specs.Arithmetic.{is_zero}
use Rattle.pv_num.proofs.Quotients.{member_short}
use Rattle.pv_num.proofs.operators.divide_for_remainder.Goals as goal

given : (z f : Bool) (r : ℤ) → z ≡ false → f ≡ true → Ok r ≡ (if z then Err ZeroDivisor else (if f then Ok r else Err Quotient))
given true f r e g = cc
given false true r e g = refl
given false false r e g = cc

refused : (z f : Bool) (r : ℤ) → z ≡ false → f ≡ false → Err Quotient ≡ (if z then Err ZeroDivisor else (if f then Ok r else Err Quotient))
refused true f r e g = cc
refused false true r e g = cc
refused false false r e g = refl

pub returns-then-fits : goal.returns-then-fits
returns-then-fits c =
    let a : FitsSigned w128 c.args.a = c.ranges.a in
    let b : FitsSigned w128 c.args.b = c.ranges.b in
    let q : FitsSigned w128 c.quotient.result = record { sfits = c.quotient.type_inv } in
    let r : FitsSigned w128 c.remainder.result = record { sfits = c.remainder.type_inv } in
    let same_a : to_z w128 (of_z w128 c.args.a) ≡ c.args.a = simp to_z-of_z refl in
    let same_b : to_z w128 (of_z w128 c.args.b) ≡ c.args.b = simp to_z-of_z refl in
    let same_q : to_z w128 (of_z w128 c.quotient.result) ≡ c.quotient.result = simp to_z-of_z refl in
    let zero : is_zero c.args.b ≡ false = ap is_zero (sym same_b) ∙ sym c.is_zero.ensures ∙ c.if-is_zero.false in
    let whole : c.quotient.result ≡ int_div c.args.a c.args.b = c.quotient.ensures ∙ ap (λ x. int_div x (to_z w128 (of_z w128 c.args.b))) same_a ∙ ap (int_div c.args.a) same_b in
    let left : c.remainder.result ≡ int_rem c.args.a c.args.b = c.remainder.ensures ∙ ap (λ x. int_rem x (to_z w128 (of_z w128 c.args.b))) same_a ∙ ap (int_rem c.args.a) same_b in
    let fit : fits_of c.args.kind (int_div c.args.a c.args.b) ≡ true = ap (fits_of c.args.kind) (sym whole ∙ sym same_q) ∙ sym c.fits.ensures.value ∙ c.if-fits.true in
    simp to_z-of_z (ap Ok left ∙ given (is_zero c.args.b) (fits_of c.args.kind (int_div c.args.a c.args.b)) (int_rem c.args.a c.args.b) zero fit)

pub quotient-requires-clause-nonzero : goal.quotient-requires-clause-nonzero
quotient-requires-clause-nonzero c = sym c.is_zero.ensures ∙ c.if-is_zero.false

pub quotient-requires-clause-dividend : goal.quotient-requires-clause-dividend
quotient-requires-clause-dividend c =
    let fits : FitsSigned w128 c.args.a = c.ranges.a in
    simp to_z-of_z (member_short c.args.kind c.args.a c.requires.left)

pub quotient-requires-clause-divisor : goal.quotient-requires-clause-divisor
quotient-requires-clause-divisor c =
    let fits : FitsSigned w128 c.args.b = c.ranges.b in
    simp to_z-of_z (member_short c.args.kind c.args.b c.requires.right)

pub remainder-requires-clause-nonzero : goal.remainder-requires-clause-nonzero
remainder-requires-clause-nonzero c = sym c.is_zero.ensures ∙ c.if-is_zero.false

pub remainder-requires-clause-dividend : goal.remainder-requires-clause-dividend
remainder-requires-clause-dividend c =
    let fits : FitsSigned w128 c.args.a = c.ranges.a in
    simp to_z-of_z (member_short c.args.kind c.args.a c.requires.left)

pub remainder-requires-clause-divisor : goal.remainder-requires-clause-divisor
remainder-requires-clause-divisor c =
    let fits : FitsSigned w128 c.args.b = c.ranges.b in
    simp to_z-of_z (member_short c.args.kind c.args.b c.requires.right)

pub returns-else-fits : goal.returns-else-fits
returns-else-fits c =
    let a : FitsSigned w128 c.args.a = c.ranges.a in
    let b : FitsSigned w128 c.args.b = c.ranges.b in
    let q : FitsSigned w128 c.quotient.result = record { sfits = c.quotient.type_inv } in
    let same_a : to_z w128 (of_z w128 c.args.a) ≡ c.args.a = simp to_z-of_z refl in
    let same_b : to_z w128 (of_z w128 c.args.b) ≡ c.args.b = simp to_z-of_z refl in
    let same_q : to_z w128 (of_z w128 c.quotient.result) ≡ c.quotient.result = simp to_z-of_z refl in
    let zero : is_zero c.args.b ≡ false = ap is_zero (sym same_b) ∙ sym c.is_zero.ensures ∙ c.if-is_zero.false in
    let whole : c.quotient.result ≡ int_div c.args.a c.args.b = c.quotient.ensures ∙ ap (λ x. int_div x (to_z w128 (of_z w128 c.args.b))) same_a ∙ ap (int_div c.args.a) same_b in
    let fit : fits_of c.args.kind (int_div c.args.a c.args.b) ≡ false = ap (fits_of c.args.kind) (sym whole ∙ sym same_q) ∙ sym c.fits.ensures.value ∙ c.if-fits.false in
    refused (is_zero c.args.b) (fits_of c.args.kind (int_div c.args.a c.args.b)) (int_rem c.args.a c.args.b) zero fit
