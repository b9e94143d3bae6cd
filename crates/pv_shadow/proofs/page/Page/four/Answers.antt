use Rattle.std.proofs.Common.{◌%◌, ◌<◌, ◌^◌, sym, subst, arith}
use Rattle.pv_shadow.specs.Packed.{IsNumber}
use Rattle.pv_shadow.proofs.Cells.{number_seen}
use Rattle.pv_shadow.proofs.page.Page.four.Goals as goal

pub returns-in-Some-clause-number : goal.returns-in-Some-clause-number
returns-in-Some-clause-number c =
    subst (λ m. IsNumber c.args.self.now c.args.i m (c.in-Some.four.name % 4294967296)) (sym (c.are_four.ensures.four c.if-not-are_four.false))
    (number_seen c.args.self.now c.args.i c.in-Some.four c.in-Some.ensures.bytes)

pub returns-in-Some-clause-fits : goal.returns-in-Some-clause-fits
returns-in-Some-clause-fits c =
    subst (λ m. c.in-Some.four.name % 4294967296 < 256 ^ m) (sym (c.are_four.ensures.four c.if-not-are_four.false)) (omega arith)
