use Rattle.std.proofs.Common.{refl}
use Rattle.pv_shown.proofs.Walks.{tie_lines, tie_next, number_next, walk_ends}
use Rattle.pv_shown.proofs.showing.add_ties.Goals as goal

pub loop-tie-preserved : goal.loop-tie-preserved
loop-tie-preserved c = record {
  near = number_next _ c.loop-tie.number _ c.loop-tie.tie-index c.in_ok-number.ensures.next c.loop-tie.invariant.near;
  lines =
      tie_next c.args.names.now c.args.n c.loop-tie.number _ c.args.ties.now c.loop-tie.tie-index _ c.loop-tie.text.items c.add_if_tied.new.text.items _
      c.loop-tie-test.true c.in_ok-number.ensures.next c.in_ok-number.ensures.line c.loop-tie.invariant.lines;
}

pub returns : goal.returns
returns c =
    walk_ends (tie_lines c.args.names.now c.args.n c.loop-tie.number) c.args.ties.now c.loop-tie.tie-index c.loop-tie.text.items _ c.loop-tie-test.false refl c.loop-tie.invariant.lines
