use Rattle.std.proofs.Common.{◌*ℤ◌, FitsSigned}
use Rattle.std.proofs.lemmas.Int.{to_z-of_z}
use mir.Syntax.{w128}
use Rattle.pv_num.proofs.Products.{product_fits}
use Rattle.pv_num.proofs.operators.product.Goals as goal

pub overflow_mul-result : goal.overflow_mul-result
overflow_mul-result c =
    let fa : FitsSigned w128 c.args.a = c.ranges.a in
    let fb : FitsSigned w128 c.args.b = c.ranges.b in
    simp to_z-of_z (product_fits c.args.a c.args.b c.requires.left c.requires.right)

pub returns : goal.returns
returns c =
    let fa : FitsSigned w128 c.args.a = c.ranges.a in
    let fb : FitsSigned w128 c.args.b = c.ranges.b in
    let f : FitsSigned w128 (c.args.a *ℤ c.args.b) = product_fits c.args.a c.args.b c.requires.left c.requires.right in
    simp to_z-of_z
