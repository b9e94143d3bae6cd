use Rattle.std.proofs.Common.{◌≡◌, false, true, FitsSigned, rules, sym, ap, ◌∙◌, ℤ, Ok, int_div, int_rem, to_z, of_z, w64}
use Rattle.std.specs.Int.{w128}
use Rattle.std.proofs.lemmas.Int.{to_z-of_z}
use Rattle.pv_num.specs.Kinds.{fits_of}
use Rattle.pv_num.specs.Arithmetic.{binary_of, is_zero}
use Rattle.pv_eval.proofs.PlainNumbers.{quotient_is, remainder_is, some_exact}
use Rattle.pv_eval.proofs.plain_numbers.divided.Goals as goal

pub returns-in-Div : goal.returns-in-Div
returns-in-Div c =
    let op = c.args.op in
    let k = c.args.kind in
    let x = c.args.x in
    let y = c.args.y in
    let q = c.in_ok-quotient.quotient in
    let sx : to_z w64 (of_z w64 x) ≡ x = to_z-of_z w64 x c.ranges.x in
    let sy : to_z w64 (of_z w64 y) ≡ y = to_z-of_z w64 y c.ranges.y in
    let f : FitsSigned w128 c.from-whole.result = search rules in
    let fq : FitsSigned w64 q = search rules in
    let sq : to_z w64 (of_z w64 q) ≡ q = to_z-of_z w64 q fq in
    let is : q ≡ int_div x y = c.in_ok-quotient.ensures.1 ∙ ap (λ (m : ℤ). int_div m (to_z w64 (of_z w64 y))) sx ∙ ap (int_div x) sy in
    let wide : to_z w128 (of_z w128 c.from-whole.result) ≡ int_div x y = to_z-of_z w128 c.from-whole.result f ∙ c.from-whole.ensures ∙ sq ∙ is in
    let nonzero : is_zero y ≡ false = ap is_zero (sym sy) ∙ sym c.is_zero.ensures ∙ c.if-is_zero.false in
    let fits : fits_of k (int_div x y) ≡ true = ap (fits_of k) (sym wide) ∙ sym c.fits.ensures.value ∙ c.if-not-fits.false in
    quotient_is op k x y nonzero fits c.in-Div.is ∙ ap Ok (sym (sq ∙ is))

pub returns-in-Rem : goal.returns-in-Rem
returns-in-Rem c =
    let op = c.args.op in
    let k = c.args.kind in
    let x = c.args.x in
    let y = c.args.y in
    let q = c.in_ok-quotient.quotient in
    let sx : to_z w64 (of_z w64 x) ≡ x = to_z-of_z w64 x c.ranges.x in
    let sy : to_z w64 (of_z w64 y) ≡ y = to_z-of_z w64 y c.ranges.y in
    let f : FitsSigned w128 c.from-whole.result = search rules in
    let fq : FitsSigned w64 q = search rules in
    let sq : to_z w64 (of_z w64 q) ≡ q = to_z-of_z w64 q fq in
    let is : q ≡ int_div x y = c.in_ok-quotient.ensures.1 ∙ ap (λ (m : ℤ). int_div m (to_z w64 (of_z w64 y))) sx ∙ ap (int_div x) sy in
    let wide : to_z w128 (of_z w128 c.from-whole.result) ≡ int_div x y = to_z-of_z w128 c.from-whole.result f ∙ c.from-whole.ensures ∙ sq ∙ is in
    let nonzero : is_zero y ≡ false = ap is_zero (sym sy) ∙ sym c.is_zero.ensures ∙ c.if-is_zero.false in
    let fits : fits_of k (int_div x y) ≡ true = ap (fits_of k) (sym wide) ∙ sym c.fits.ensures.value ∙ c.if-not-fits.false in
    let rest : int_rem (to_z w64 (of_z w64 x)) (to_z w64 (of_z w64 y)) ≡ int_rem x y = ap (λ (m : ℤ). int_rem m (to_z w64 (of_z w64 y))) sx ∙ ap (int_rem x) sy in
    some_exact (binary_of op k x y) c.checked_rem.result _ _ (remainder_is op k x y nonzero fits c.in-Rem.is ∙ ap Ok (sym rest)) c.checked_rem.ensures
