use Rattle.std.proofs.Common.{ℕ, ℤ, ◌<◌, ◌^◌, None, ap, ◌∙◌, arith}
use Rattle.std.proofs.lemmas.Int.{to_z_pos}
use Rattle.std.specs.Int.{w128}
use Rattle.pv_num.specs.declared.kinds.IntKind.TheVariants.{UInt}
use Rattle.pv_object.specs.declared.values.Scalar.TheVariants as scalar
use Rattle.pv_object.specs.declared.values.Value.TheVariants as value
use Rattle.pv_object.specs.Answers.{after_storing}
use Rattle.pv_libc.proofs.Putting.{four_stored}
use Rattle.pv_libc.proofs.blocks.put_four.Goals as goal

pub returns : goal.returns
returns c =
    let M = c.args.memory.now in
    let a = c.args.at.now.address in
    let number : ℕ = c.number_of_four-number.result in
    let fits = c.number_of_four-number.ensures.fits in
    let small : number < 2 ^ 127 = omega (arith, fits) in
    c.store.ensures
    ∙ ap (λ (z : ℤ). after_storing M a (scalar.Int UInt) (value.Int z) None) (to_z_pos w128 number small)
    ∙ four_stored M a number c.args.text.now _ fits c.requires.four c.number_of_four-number.ensures.digits
