use Rattle.pv_shown.proofs.Walks.{live_lines}
use Rattle.pv_shown.proofs.Parting.{first_by, others_by, lines_next, then_all}
use Rattle.pv_shown.proofs.showing.add_lives.Goals as goal

pub add_block-requires : goal.add_block-requires
add_block-requires c =
    first_by c.loop-end.rest.now _ c.args.ends.now c.loop-end.end-index _ c.loop-end-test.true c.first_block.ensures.first c.loop-end.invariant.ends

pub loop-end-preserved : goal.loop-end-preserved
loop-end-preserved c = record {
  ends = others_by c.loop-end.rest.now _ c.args.ends.now c.loop-end.end-index c.loop-end-test.true c.first_block.ensures.others c.loop-end.invariant.ends;
  lines =
      lines_next c.args.names.now c.args.n c.loop-end.rest.now _ _ c.loop-end.text.items c.add_block.new.text.items _
      c.first_block.ensures.first c.first_block.ensures.others c.in_ok-add_block.ensures c.loop-end.invariant.lines;
}

pub returns : goal.returns
returns c = then_all c.loop-end.text.items (live_lines c.args.names.now c.args.n c.loop-end.rest.now) _ _ c.add_each.result c.add_each.ensures c.loop-end.invariant.lines
