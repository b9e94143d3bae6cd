use Rattle.std.proofs.Common.{ℕ, ◌/◌, sym, ap, ◌∙◌, div-one}
use Rattle.pv_eval.proofs.dividing.quotient.Goals as goal

pub returns-then-size-eq4 : goal.returns-then-size-eq4
returns-then-size-eq4 c = ap (λ (k : ℕ). c.args.n / k) (sym c.if-size-eq4.true)

pub returns-then-size-eq8 : goal.returns-then-size-eq8
returns-then-size-eq8 c = ap (λ (k : ℕ). c.args.n / k) (sym c.if-size-eq8.true)

pub returns-then-size-eq1 : goal.returns-then-size-eq1
returns-then-size-eq1 c = sym (ap (λ (k : ℕ). c.args.n / k) c.if-size-eq1.true ∙ div-one c.args.n)
