use Rattle.std.proofs.Common.{◌≡◌, ℕ, ◌+◌, ◌<◌, None, length, drop, sym, ap, subst, ◌∙◌, arith}
use Rattle.std.proofs.lemmas.List.{drop_all}
use Rattle.pv_world.specs.BoundParts.{last_at}
use Rattle.pv_world.proofs.Bindings.{front_none, front_some}
use Rattle.pv_world.proofs.bound.last_place.Goals as goal

pub loop-k-init : goal.loop-k-init
loop-k-init c = record { within = omega arith; rest = ap (λ xs. last_at xs c.args.n) (drop_all (length c.args.few.now) c.args.few.now (omega arith)) }

pub loop-k-preserved : goal.loop-k-preserved
loop-k-preserved c = record {
  within = omega (arith, c.loop-k.invariant.within);
  rest = front_none c.args.few.now c.loop-k.k c.args.n c.loop-k-test.true (omega (arith, c.loop-k.invariant.within)) c.loop-k.invariant.rest (sym c.is_of.ensures ∙ c.if-is_of.false);
}

pub returns-then-is_of-clause-within : goal.returns-then-is_of-clause-within
returns-then-is_of-clause-within c = omega (arith, c.loop-k.invariant.within, c.loop-k-test.true)

pub returns-then-is_of-clause-number : goal.returns-then-is_of-clause-number
returns-then-is_of-clause-number c = sym c.is_of.ensures ∙ c.if-is_of.true

pub returns-then-is_of-clause-said : goal.returns-then-is_of-clause-said
returns-then-is_of-clause-said c = front_some c.args.few.now c.loop-k.k c.args.n c.loop-k-test.true (omega (arith, c.loop-k.invariant.within)) c.loop-k.invariant.rest (sym c.is_of.ensures ∙ c.if-is_of.true)

pub returns-clause-none : goal.returns-clause-none
returns-clause-none c =
    let z : c.loop-k.k ≡ 0 = omega arith in
    subst (λ (j : ℕ). last_at (drop j c.args.few.now) c.args.n ≡ None) z c.loop-k.invariant.rest
