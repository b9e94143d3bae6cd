use Rattle.std.proofs.Common.{ap, ◌+◌, ◌∙◌}
use Rattle.pv_shown.proofs.Parting.{first_by, others_by, count_next, count_fits, last_fits}
use Rattle.pv_shown.proofs.showing.live_count.Goals as goal

pub block_count-count-requires : goal.block_count-count-requires
block_count-count-requires c =
    first_by c.loop-end.rest.now _ c.args.ends.now c.loop-end.end-index _ c.loop-end-test.true c.first_block.ensures.first c.loop-end.invariant.ends

pub overflow_add-count : goal.overflow_add-count
overflow_add-count c =
    record { fits = count_fits c.args.n c.loop-end.rest.now _ c.args.lives.now c.loop-end.count _ c.first_block.ensures.first c.block_count-count.ensures c.loop-end.invariant.counted c.are_short.ensures }

pub loop-end-preserved : goal.loop-end-preserved
loop-end-preserved c = record {
  ends = others_by c.loop-end.rest.now _ c.args.ends.now c.loop-end.end-index c.loop-end-test.true c.first_block.ensures.others c.loop-end.invariant.ends;
  counted = count_next c.args.n c.loop-end.rest.now _ _ c.loop-end.count _ _ c.first_block.ensures.first c.first_block.ensures.others c.block_count-count.ensures c.loop-end.invariant.counted;
}

pub overflow_add-result : goal.overflow_add-result
overflow_add-result c = record { fits = last_fits c.args.n c.loop-end.rest.now c.args.lives.now c.loop-end.count _ c.each_count.ensures c.loop-end.invariant.counted c.are_short.ensures }

pub returns : goal.returns
returns c = ap (λ k. c.loop-end.count + k) c.each_count.ensures ∙ c.loop-end.invariant.counted
