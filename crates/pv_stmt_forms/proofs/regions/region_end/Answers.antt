use Rattle.std.proofs.Common.{◌≡◌, ◌-◌, ℕ, drop, subst, arith}
use Rattle.pv_stmt_forms.specs.RegionEnds.{NoneEnds}
use Rattle.pv_stmt_forms.proofs.RegionSteps.{braces_grow, known_next, known_behind, known_last}
use Rattle.pv_stmt_forms.proofs.regions.region_end.Goals as goal

pub loop-at-preserved : goal.loop-at-preserved
loop-at-preserved c = record {
  few = omega (arith, c.loop-at.invariant.few, c.ends_with.ensures.braces, braces_grow c.at.result.kind c.loop-at.scan.braces);
  place = omega (arith, c.loop-at.invariant.place);
  known = known_next c.args.tokens.now.tokens c.args.from c.loop-at.at c.loop-at.scan.braces c.ends_with.new.self.braces c.at.result c.at.ensures c.loop-at.invariant.known (c.ends_with.ensures.inner c.if-ends_with.false) c.ends_with.ensures.braces;
}

pub returns-then-ends_with-clause-first : goal.returns-then-ends_with-clause-first
returns-then-ends_with-clause-first c = known_behind c.args.tokens.now.tokens c.args.from c.loop-at.at c.loop-at.scan.braces c.loop-at.invariant.place c.loop-at.invariant.known

pub returns-clause-first : goal.returns-clause-first
returns-clause-first c =
    let same : c.loop-at.at ≡ c.len.result = omega (arith, c.loop-at-test.false, c.loop-at.auto.at, c.loop-at.auto.at-end, c.len.ensures, c.len-at-end.ensures) in
    subst (λ (end : ℕ). NoneEnds 0 (end - 1 - c.args.from) (drop c.args.from c.args.tokens.now.tokens)) same (known_last c.args.tokens.now.tokens c.args.from c.loop-at.at c.loop-at.scan.braces c.loop-at.invariant.place c.loop-at.invariant.known)
