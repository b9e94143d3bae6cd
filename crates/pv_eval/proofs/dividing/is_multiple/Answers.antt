use Rattle.std.proofs.Common.{◌≡◌, ℕ, sym, ap, ◌∙◌, arith}
use Rattle.std.specs.Prelude.{◌==◌, ◌%◌}
use Rattle.std.proofs.lemmas.Nat.{mod_below}
use Rattle.pv_eval.proofs.dividing.is_multiple.Goals as goal

pub returns-then-size-eq4 : goal.returns-then-size-eq4
returns-then-size-eq4 c = ap (λ (k : ℕ). c.args.n % k == 0) (sym c.if-size-eq4.true)

pub returns-then-size-eq8 : goal.returns-then-size-eq8
returns-then-size-eq8 c = ap (λ (k : ℕ). c.args.n % k == 0) (sym c.if-size-eq8.true)

pub returns-then-size-eq1 : goal.returns-then-size-eq1
returns-then-size-eq1 c =
    let none : c.args.n % 1 ≡ 0 = omega (arith, mod_below c.args.n 1 (omega arith)) in
    sym (ap (λ (k : ℕ). c.args.n % k == 0) c.if-size-eq1.true ∙ ap (λ (k : ℕ). k == 0) none)
