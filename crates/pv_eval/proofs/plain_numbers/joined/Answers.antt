use Rattle.std.proofs.Common.{◌≡◌, FitsSigned, rules, sym, ap, ◌∙◌, ℤ, Ok, to_z, of_z, w64}
use Rattle.std.specs.Int.{w128}
use Rattle.std.proofs.lemmas.Int.{to_z-of_z}
use Rattle.pv_num.specs.Kinds.{fits_of}
use Rattle.pv_num.specs.Arithmetic.{binary_of}
use Rattle.pv_eval.proofs.PlainNumbers.{exactly_member}
use Rattle.pv_eval.proofs.plain_numbers.joined.Goals as goal

pub returns : goal.returns
returns c =
    let op = c.args.op in
    let k = c.args.kind in
    let x = c.args.x in
    let y = c.args.y in
    let z = c.in_ok-z.z in
    let f : FitsSigned w128 c.from-wide.result = search rules in
    let fz : FitsSigned w64 z = search rules in
    let sx : to_z w64 (of_z w64 x) ≡ x = to_z-of_z w64 x c.ranges.x in
    let sy : to_z w64 (of_z w64 y) ≡ y = to_z-of_z w64 y c.ranges.y in
    let sz : to_z w64 (of_z w64 z) ≡ z = to_z-of_z w64 z fz in
    let n : to_z w128 (of_z w128 c.from-wide.result) ≡ z = to_z-of_z w128 c.from-wide.result f ∙ c.from-wide.ensures ∙ sz in
    ap (λ (m : ℤ). binary_of op k m y) (sym sx) ∙ ap (binary_of op k (to_z w64 (of_z w64 x))) (sym sy) ∙ c.in_ok-z.ensures k
    ∙ exactly_member k z c.requires (ap (fits_of k) (sym n) ∙ sym c.fits.ensures.value ∙ c.if-not-fits.false)
    ∙ ap Ok (sym sz)
