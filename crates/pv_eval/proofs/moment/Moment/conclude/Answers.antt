use Rattle.std.proofs.Common.{sym, ◌∙◌, arith}
use Rattle.pv_eval.specs.Moments.{sides_of}
use Rattle.pv_eval.proofs.Sides.{keeps_made}
use Rattle.pv_eval.proofs.moment.Moment.conclude.Goals as goal

pub keep_side-requires : goal.keep_side-requires
keep_side-requires c =
    let later = keeps_made (sides_of c.self.inside.sides) c.args.before c.pairs_made-pair.result c.in-Keeps.high (sym c.side_for.ensures ∙ c.in-Keeps.is) in
    (omega (arith, later), omega (arith, c.pairs_made-pair.ensures))
