use Rattle.std.proofs.Common.{◌≡◌, ◌+◌, ◌-◌, ◌<◌, ◌^◌, rules, sym, subst, IfSome, IsSomeAnd, arith}
use Rattle.pv_shadow.specs.Packed.{digit_at, IsNameless}
use Rattle.pv_shadow.specs.Pages.{slot_at}
use Rattle.pv_shadow.proofs.Digits.{sum_fits, bound_kept}
use Rattle.pv_shadow.proofs.Numbers.{digits_more}
use Rattle.pv_shadow.proofs.page.Page.composed.Goals as goal

pub overflow_mul-number : goal.overflow_mul-number
overflow_mul-number c =
    let h = sum_fits c.loop-k.number 0 c.args.n c.loop-k.k c.requires.few c.loop-k-test.true c.loop-k.invariant.within c.loop-k.invariant.bound (omega arith) in
    record { fits = omega (arith, h) }

pub overflow_add-number : goal.overflow_add-number
overflow_add-number c =
    let low : c.from.result < 256 = search rules in
    let h = sum_fits c.loop-k.number c.from.result c.args.n c.loop-k.k c.requires.few c.loop-k-test.true c.loop-k.invariant.within c.loop-k.invariant.bound low in
    record { fits = omega (arith, h) }

pub loop-k-preserved : goal.loop-k-preserved
loop-k-preserved c =
    let low : c.from.result < 256 = search rules in
    let first : IsSomeAnd (slot_at c.args.self.now (c.args.i + (c.loop-k.k - 1))) (IsNameless c.from.result) =
    subst (λ v. IsSomeAnd (slot_at c.args.self.now (c.args.i + (c.loop-k.k - 1))) (IsNameless v)) (sym c.from.ensures) (subst (λ o. IfSome o (λ v. IsSomeAnd (slot_at c.args.self.now (c.args.i + (c.loop-k.k - 1))) (IsNameless v))) c.in-Some.is c.nameless_at.ensures) in
    record {
      within = omega arith;
      bound = bound_kept c.loop-k.number c.from.result c.args.n c.loop-k.k c.loop-k-test.true c.loop-k.invariant.within c.loop-k.invariant.bound low;
      so_far = digits_more c.args.self.now c.args.i c.loop-k.k c.args.n c.from.result c.loop-k.number c.loop-k-test.true low first c.loop-k.invariant.so_far;
    }

pub returns-clause-number : goal.returns-clause-number
returns-clause-number c = λ j h.
    let e : c.args.i + (c.loop-k.k + j) ≡ c.args.i + j = omega arith in
    subst (λ q. IsSomeAnd (slot_at c.args.self.now q) (IsNameless (digit_at c.loop-k.number j))) e (c.loop-k.invariant.so_far j (omega arith))

pub returns-clause-fits : goal.returns-clause-fits
returns-clause-fits c =
    let all : c.args.n - c.loop-k.k ≡ c.args.n = omega arith in
    subst (λ e. c.loop-k.number < 256 ^ e) all c.loop-k.invariant.bound
