use Rattle.std.proofs.Common.{ℕ, ◌<◌, ◌^◌, IfSome, sym, subst}
use Rattle.pv_shadow.specs.Packed.{IsNumber}
use Rattle.pv_shadow.proofs.page.Page.eight.Goals as goal

pub returns-clause-number : goal.returns-clause-number
returns-clause-number c =
    subst (λ (m : ℕ). IfSome c.eight_number.result (IsNumber c.args.self.now c.args.i m)) (sym (c.are_eight.ensures.eight c.if-not-are_eight.false)) c.eight_number.ensures.number

pub returns-clause-fits : goal.returns-clause-fits
returns-clause-fits c =
    subst (λ (m : ℕ). IfSome c.eight_number.result (λ a. a < 256 ^ m)) (sym (c.are_eight.ensures.eight c.if-not-are_eight.false)) c.eight_number.ensures.fits
