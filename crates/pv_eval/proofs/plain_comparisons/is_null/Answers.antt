use Rattle.std.proofs.Common.{sym, subst}
use Rattle.pv_world.specs.Worlds.{Worth}
use Rattle.pv_eval.specs.Operations.{Negates}
use Rattle.pv_eval.specs.Plainly.{GivesAt, found_worth}
use Rattle.pv_eval.proofs.PlainComparisons.{negates}
use Rattle.pv_eval.proofs.plain_comparisons.is_null.Goals as goal

pub returns : goal.returns
returns c =
    let v = found_worth c.args.v in
    subst (λ (z : Worth). GivesAt c.args.world.now (λ b. Negates v) z) (sym c.truth.ensures) (negates c.args.world.now v c.in_ok-address.address c.in_ok-address.ensures)
