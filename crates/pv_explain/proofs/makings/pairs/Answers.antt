use Rattle.std.proofs.Common.{nat_eq, arith}
use Rattle.indexmap.specs.IndexMap.{get}
use Rattle.pv_watch.specs.Lines.{making_of_pair}
use Rattle.pv_explain.proofs.Walks.{told_before}
use Rattle.pv_explain.proofs.makings.pairs.Goals as goal

pub loop-at-preserved : goal.loop-at-preserved
loop-at-preserved c = record {
  within = omega arith;
  told = told_before making_of_pair c.args.seen.now c.loop-at.at _ (λ i. get nat_eq c.loop-at.pairs i) (λ i. get nat_eq c.keep_pair.new.pairs i) c.loop-at-test.true c.loop-at.invariant.within c.loop-at.invariant.told c.in_ok-keep_pair.ensures;
}
